-- A round stops only for want of memory or of numbers.
use Rattle.std.proofs.Common.{◌≡◌, ◌⊎◌, ℕ, ◌+◌, ◌<◌, ◌≤◌, Bool, true, false, List, [], ◌∷◌, length, Option, Some, None, refl, sym, ap, ◌∙◌, subst, arith, inl, inr, true≢false, eq-eqb, ne_eqb}
use Rattle.std.specs.Prelude.{◌==◌, ◌&&◌, ◌||◌, not, is_some, nat_lt, Err}
use Rattle.std.proofs.lemmas.Bool.{MatchBool-at_true}
use Rattle.std.proofs.lemmas.Bool.Decides.{nat_tests}
use Rattle.record_key.specs.declared.op.Op.{Op}
use Rattle.record_key.specs.declared.refusal.Refusal.{Refusal}
use Rattle.record_key.specs.declared.refusal.Refusal.TheVariants.{Stale, NumbersSpent}
use Rattle.record_key.specs.FirstCause.{first_of, RefusesAs, MayRefuse}
use Rattle.tc_core.specs.Refusing.{Refuses}
use Rattle.tc_locks.specs.declared.span.Span.{Span}
use Rattle.tc_locks.specs.declared.span.Span.TheVariants.{Key, Range}
use Rattle.codec.specs.declared.request.Request.{Request}
use Rattle.codec.specs.declared.request.Request.TheVariants as asks
use Rattle.codec.specs.declared.reply.Reply.{Reply}
use Rattle.codec.specs.declared.reply.Reply.TheVariants as says
use Rattle.dc_core.specs.DcView.{DcView}
use Rattle.dc_core.specs.Serves.{session_refusal, after_redo_refusal, connect_refusal, serve_refusal, runs, Stops as StopsServing, StopsUnless}
use Rattle.tc_core.specs.declared.open_txn.OpenTxn.{OpenTxn}
use Rattle.tc_core.specs.declared.phase.Phase.{Phase}
use Rattle.tc_core.specs.declared.phase.Phase.TheVariants as phase
use Rattle.tc_log.specs.LogView.{is_spent as log_is_spent, last_not_session}
use Rattle.dc_core.specs.dc_store.specs.Gives.{is_spent}
use Rattle.tc_core.specs.TcView.{TcView, is_waiting, waits}
use Rattle.tc_core.specs.Causes.{resend_refusal, undo_refusal, undo_logs}
use Rattle.tc_core.specs.OpenTxns.{find}
use Rattle.tc_core.specs.Changes.{reconnected}
use Rattle.tc_core.specs.Calls.{read_request, ReconnectGives, UndoGives}
use Rattle.tc_core.specs.Recovery.{SendsAt, ResendsUndo, recover_refusal, redo_request, redo_place, redoing, undo_logs_at}
use Rattle.codec.specs.Replies.{session_of}
use Rattle.tc_core.specs.Replies.{logs, ReplyGives}
use Rattle.tc_core.specs.Kept.{IsPhase, IsTc}
use Rattle.tc_core.proofs.Finding.{found_own}
use Rattle.tc_core.proofs.KeepsTc.{reading_at}
use Rattle.tc_core.specs.Undo.{FindsRequest}
use Rattle.history.specs.Log.{Requests}
use Rattle.node_laws.specs.declared.event.Event.TheVariants as event
use Rattle.node_laws.specs.declared.event.Out.{Out}
use Rattle.node_laws.specs.declared.event.Out.TheVariants as out
use Rattle.node_laws.specs.declared.round.Round.{Round}
use Rattle.node_laws.specs.declared.round.Round.TheVariants as round
use Rattle.node_laws.specs.Node.{NodeView, AreUp, next_connect, LacksRoom, is_replied_to, ReconnectsTo, RecoversTo, SendsTo, sends_at}
use Rattle.node_laws.specs.Kept.{IsKept, IsServed}
use Rattle.node_laws.specs.Rounds.{IsDone, AreRunning, IsRecovering, IsDue, IsReader, IsRolling, IsNextRound, IsWant, StopsAt, events_of}
use Rattle.node_laws.proofs.Invariant.Sends.{redoing_phase}
use Rattle.node_laws.proofs.Settles.Exchanges.{HasReply, Stops, stops}
use Rattle.node_laws.proofs.Invariant.Running.{stored_recorded}
use Rattle.node_laws.proofs.Settles.Replied.{some_reply, sound_reply, read_reply, read_session, connect_replied, perform_replied, redo_replied, request_replied}
use Rattle.node_laws.proofs.Settles.Falls.{recovering_at}

no_cause : (x : Option Refusal) (r : Refusal) → x ≡ None → RefusesAs x r → IsWant r
no_cause None r e h = inl h
no_cause (Some c) r e h = absurd (cc)

no_room : (x : Option Refusal) (sends : Bool) (r : Refusal) → x ≡ None → LacksRoom x sends r → IsWant r
no_room None sends r e h = inl h.1
no_room (Some c) sends r e h = absurd (cc)

-- memory, or the device
want_refused : (m d : Bool) (old : TcView) (r : Refusal) (new : TcView) → Refuses None m d old r new → IsWant r
want_refused m d old r new (inl h) = inl h.1
want_refused m d old r new (inr h) = inr (inr h.1)

spent_want : (b m d : Bool) (old : TcView) (r : Refusal) (new : TcView)
    → Refuses (first_of ((b, NumbersSpent) ∷ [])) m d old r new → IsWant r
spent_want true m d old r new h = inr (inl h.0)
spent_want false m d old r new h = want_refused m d old r new h

-- a reply of the session that runs
reply_want : (w : TcView) (reply : Reply) (r : Refusal) (new : TcView) → session_of reply ≡ w.session → 0 < w.session
    → ReplyGives w reply (Err r) new → IsWant r
reply_want w reply r new same some h =
    let a : (w.session == 0) ≡ false = ne_eqb w.session 0 (λ e. omega (arith, e, some)) in
    let b : (session_of reply == w.session) ≡ true = eq-eqb (session_of reply) w.session same in
    fresh (w.session == 0) (session_of reply == w.session) (logs w reply && log_is_spent w.log) a b h
  where
    fresh : (a b c : Bool) → a ≡ false → b ≡ true
        → Refuses (first_of ((a || not b, Stale) ∷ (c, NumbersSpent) ∷ [])) (logs w reply) (logs w reply) w r
        new
        → IsWant r
    fresh true b c e f h = absurd (true≢false e)
    fresh false false c e f h = absurd (true≢false (sym f))
    fresh false true true e f h = inr (inl h.0)
    fresh false true false e f h = want_refused (logs w reply) (logs w reply) w r new h

-- a request of the session that runs
serves_session : (dc : DcView) (s : ℕ) → dc.session ≡ s → 0 < s → session_refusal dc s ≡ None
serves_session dc s same some =
    let a : (dc.session == 0) ≡ false = ne_eqb dc.session 0 (λ e. omega (arith, e, some, same)) in
    let b : (dc.session == s) ≡ true = eq-eqb dc.session s same in rw (a, b) refl

-- a later session's Connect is refused for want of a number alone
connect_causes : (P : Option Refusal → Type 0) (dc : DcView) (s : ℕ) → dc.stored < s → P None → P (Some NumbersSpent)
    → P (connect_refusal dc s)
connect_causes P dc s less none spent =
    let greater : nat_lt dc.stored s ≡ true = grind (arith, nat_tests, less) in
    by (runs dc s) (nat_lt dc.stored s) (is_spent (length dc.system.log)) greater
  where
    by : (a b c : Bool) → b ≡ true → P (first_of ((not a && not b, Stale) ∷ (not a && c, NumbersSpent) ∷ []))
    by true b c e = none
    by false true true e = spent
    by false true false e = none
    by false false c e = absurd (true≢false (sym e))

-- what stops an allowed request
may_want : (b : Bool) (r : Refusal) → MayRefuse (first_of ((b, NumbersSpent) ∷ [])) r → IsWant r
may_want true r h = inr (inl h)
may_want false r (inl h) = inl h
may_want false r (inr h) = inr (inr h)

-- a node that settles asks for no checkpoint, which may have to wait
abbrev IsNoCheckpoint : Request → Type 0
IsNoCheckpoint (asks.Checkpoint s l) = ⊥
IsNoCheckpoint _ = Unit {0}

no_checkpoint : (s n : ℕ) (q : Span) → IsNoCheckpoint (read_request s n q)
no_checkpoint s n (Key k) = tt
no_checkpoint s n (Range low high) = tt

stopped_want : (dc : DcView) (q : Request) (r : Refusal) (new : DcView) → IsNoCheckpoint q → StopsServing dc q r new
    → IsWant r
stopped_want dc (asks.Connect s end) r new none h = elim h.1 [
  | inl append ↦ may_want (is_spent (length dc.system.log)) r append.0
  | inr force ↦ inr (inr force.1)
]
stopped_want dc (asks.Perform s n stable o) r new none h = inl h.1.0
stopped_want dc (asks.Get s n k) r new none h = absurd h
stopped_want dc (asks.Scan s n low high) r new none h = inl h.0
stopped_want dc (asks.LowWater s l) r new none h = absurd h
stopped_want dc (asks.Checkpoint s l) r new none h = absurd none
stopped_want dc (asks.RedoEnd s) r new none h = absurd h
stopped_want dc (asks.StableEnd s stable) r new none h = absurd h

unserved_want : (x : Option Refusal) (dc : DcView) (q : Request) (r : Refusal) (new : DcView) → x ≡ None
    → IsNoCheckpoint q → StopsUnless x dc q r new → IsWant r
unserved_want None dc q r new e none h = stopped_want dc q r new none h
unserved_want (Some cause) dc q r new e none h = absurd (cc)

-- after a request was sent
later_session : (w : NodeView) → IsKept w → w.dc.stored < length w.tc.log + 1
later_session w k = omega (arith, stored_recorded w k, k.tc.within)

stops_connect : (w : NodeView) (r : Refusal) → IsKept w
    → Stops w (reconnected w.tc) (next_connect w.tc) r → IsWant r
stops_connect w r k (inl h) = inl h
stops_connect w r k (inr (inl h)) =
    connect_causes (λ x. LacksRoom x true r → IsWant r) w.dc (length w.tc.log + 1) (later_session w k)
    (λ room. inl room.1) (λ spent. inr (inl spent)) h
stops_connect w r k (inr (inr (inl h))) =
    connect_causes (λ x. StopsUnless x w.dc (next_connect w.tc) r h.0 → IsWant r) w.dc
    (length w.tc.log + 1) (later_session w k)
    (stopped_want w.dc (next_connect w.tc) r h.0 tt) (λ spent. inr (inl spent.0)) h.1
stops_connect w r k (inr (inr (inr h))) =
    let reply : h.1 ≡ says.Connected (length w.tc.log + 1) =
    some_reply h.1 (says.Connected (length w.tc.log + 1)) h.3.0 in
    reply_want (reconnected w.tc) h.1 r h.2 (ap session_of reply) (omega arith) h.4

stops_perform : (w : NodeView) (tc : TcView) (n : ℕ) (o : Op) (r : Refusal) → IsKept w → tc.session ≡ w.tc.session
    → w.dc.session ≡ w.tc.session → 0 < w.tc.session
    → Requests w.tc.log n o → Stops w tc (asks.Perform w.tc.session n w.tc.stable o) r → IsWant r
stops_perform w tc n o r k session same some requests (inl h) = inl h
stops_perform w tc n o r k session same some requests (inr (inl h)) =
    no_room (session_refusal w.dc w.tc.session) true r (serves_session w.dc w.tc.session same some) h
stops_perform w tc n o r k session same some requests (inr (inr (inl h))) =
    unserved_want (session_refusal w.dc w.tc.session) w.dc (asks.Perform w.tc.session n w.tc.stable o) r h.0
    (serves_session w.dc w.tc.session same some) tt h.1
stops_perform w tc n o r k session same some requests (inr (inr (inr h))) =
    let sound = sound_reply w w.tc.session n w.tc.stable o h.1 h.0 k requests h.3 in
    reply_want tc h.1 r h.2 (ap session_of sound.reply_is ∙ sym session) (omega (arith, some, session)) h.4

stops_redo_end : (w : NodeView) (tc : TcView) (r : Refusal) → tc.session ≡ w.tc.session → w.dc.session ≡ w.tc.session
    → 0 < w.tc.session
    → Stops w tc (asks.RedoEnd w.tc.session) r → IsWant r
stops_redo_end w tc r session same some (inl h) = inl h
stops_redo_end w tc r session same some (inr (inl h)) =
    no_room (session_refusal w.dc w.tc.session) true r (serves_session w.dc w.tc.session same some) h
stops_redo_end w tc r session same some (inr (inr (inl h))) =
    unserved_want (session_refusal w.dc w.tc.session) w.dc (asks.RedoEnd w.tc.session) r h.0
    (serves_session w.dc w.tc.session same some) tt h.1
stops_redo_end w tc r session same some (inr (inr (inr h))) =
    let reply : h.1 ≡ says.RedoEnded w.tc.session = some_reply h.1 (says.RedoEnded w.tc.session) h.3.0 in
    reply_want tc h.1 r h.2 (ap session_of reply ∙ sym session) (omega (arith, some, session)) h.4

-- reads are served once redo has ended
serves_read : (dc : DcView) (s n : ℕ) (q : Span) → dc.session ≡ s → 0 < s → dc.redo ≡ false
    → serve_refusal dc (read_request s n q) ≡ None
serves_read dc s n q same some done = by q
  where
    either : after_redo_refusal dc s ≡ None
    either = rw (serves_session dc s same some, done) refl

    by : (q : Span) → serve_refusal dc (read_request s n q) ≡ None
    by (Key k) = either
    by (Range low high) = either

read_allowed : (w : NodeView) (n : ℕ) (q : Span) → IsKept w → AreRunning w → 0 < w.tc.session
    → serve_refusal w.dc (read_request w.tc.session n q) ≡ None
read_allowed w n q k serving some =
    let P : Phase → Type 0 = λ p. IsServed p w.tc.session w.tc.log w.dc in
    let served = subst P serving.running k.sessions.served in
    serves_read w.dc w.tc.session n q serving.session some (served.1 serving.session)

stops_read : (w : NodeView) (n : ℕ) (q : Span) (r : Refusal) → IsKept w → AreRunning w → 0 < w.tc.session
    → Stops w w.tc (read_request w.tc.session n q) r → IsWant r
stops_read w n q r k serving some (inl h) = inl h
stops_read w n q r k serving some (inr (inl h)) =
    no_room (serve_refusal w.dc (read_request w.tc.session n q)) (is_replied_to (read_request w.tc.session n q)) r
    (read_allowed w n q k serving some) h
stops_read w n q r k serving some (inr (inr (inl h))) =
    unserved_want (serve_refusal w.dc (read_request w.tc.session n q)) w.dc (read_request w.tc.session n q) r h.0
    (read_allowed w n q k serving some) (no_checkpoint w.tc.session n q) h.1
stops_read w n q r k serving some (inr (inr (inr h))) =
    reply_want w.tc h.1 r h.2 (read_session w.tc.session n q h.1 (read_reply w.tc.session n q w.dc h.0 h.1 h.3)) some
    h.4

-- each round
want_connect : (old new mid : NodeView) (o : Out) (os : List Out) (r : Refusal) → IsKept old → AreUp old
    → ReconnectsTo old o mid → IsDone o
    → StopsAt mid (event.Request (length old.requests + 1) ∷ event.Reply (length old.replies + 1) ∷ []) os r new
    → IsWant r
want_connect old new mid (out.Connects i cs) os r k up h d rest =
    let stop = stops old mid mid.tc (next_connect old.tc) i os r new up
    (connect_replied (length old.tc.log + 1) (last_not_session old.tc.log)) h.1 rest in
    stops_connect old r k (subst (λ tc. Stops old tc (next_connect old.tc) r) h.0.3 stop)
want_connect old new mid (out.Refused q) os r k up h d rest = absurd d
want_connect old new mid _ os r k up h d rest = absurd h

stops_redo : (w : NodeView) (next : ℕ) (found : Option (ℕ × Op)) (r : Refusal) → IsKept w
    → w.dc.session ≡ w.tc.session → 0 < w.tc.session
    → FindsRequest w.tc.log next w.tc.session found
    → Stops w (redoing w.tc (redo_place w.tc.session found) (not (is_some found))) (redo_request w.tc found) r
    → IsWant r
stops_redo w next None r k same some finds h = stops_redo_end w (redoing w.tc w.tc.session true) r refl same some h
stops_redo w next (Some x) r k same some finds h =
    stops_perform w (redoing w.tc x.0 false) x.0 x.1 r k refl same some finds.2 h

want_recover : (old new mid : NodeView) (o : Out) (os : List Out) (r : Refusal) (next : ℕ) (ending : Bool)
    → IsKept old → AreUp old → old.tc.phase ≡ phase.Redoing next ending → old.dc.session ≡ old.tc.session
    → RecoversTo old o mid → IsDone o
    → StopsAt mid (event.Request (length old.requests + 1) ∷ event.Reply (length old.replies + 1) ∷ []) os r new
    → IsWant r
want_recover old new mid (out.Sent i) os r next ending k up at same h d rest =
    let P : Phase → Type 0 = λ p. SendsAt old.tc p h.0 mid.tc in
    let redo = subst P at h.1.1 in
    let Q : Request → Type 0 = HasReply in
    let bounds = redoing_phase old next ending k at in
    let stop = stops old mid mid.tc h.0 i os r new up
    (subst Q (sym redo.request_is) (redo_replied old.tc redo.found)) h.2 rest in
    let S : TcView → Type 0 = λ tc. Stops old tc h.0 r in
    let R : Request → Type 0 =
    λ q. Stops old (redoing old.tc (redo_place old.tc.session redo.found) (not (is_some redo.found))) q r in
    stops_redo old next redo.found r k same (omega (arith, bounds.0, bounds.1)) redo.finds
    (subst R redo.request_is (subst S redo.left stop))
want_recover old new mid out.Nothing os r next ending k up at same h d rest =
    let no : phase.Redoing next ending ≡ phase.Running = sym at ∙ h.0.1.0 in absurd (cc)
want_recover old new mid (out.Compensated n) os r next ending k up at same h d rest =
    let no : phase.Redoing next ending ≡ phase.Undoing None = sym at ∙ h.0.1.undoing in absurd (cc)
want_recover old new mid (out.Lost t) os r next ending k up at same h d rest =
    let no : phase.Redoing next ending ≡ phase.Undoing None = sym at ∙ h.0.1.undoing in absurd (cc)
want_recover old new mid (out.Refused q) os r next ending k up at same h d rest = absurd d
want_recover old new mid _ os r next ending k up at same h d rest = absurd h

undoing_some : (w : NodeView) (waiting : Option ℕ) → IsKept w → w.tc.phase ≡ phase.Undoing waiting → 0 < w.tc.session
undoing_some w waiting k at = let P : Phase → Type 0 = IsPhase w.tc.checkpointed w.tc.session in subst P at k.tc.phase

want_resend : (old new mid : NodeView) (o : Out) (os : List Out) (r : Refusal) (n : ℕ) → IsKept old → AreUp old
    → old.tc.phase ≡ phase.Undoing (Some n) → old.dc.session ≡ old.tc.session
    → RecoversTo old o mid → IsDone o
    → StopsAt mid (event.Request (length old.requests + 1) ∷ event.Reply (length old.replies + 1) ∷ []) os r new
    → IsWant r
want_resend old new mid (out.Sent i) os r n k up at same h d rest =
    let P : Phase → Type 0 = λ p. SendsAt old.tc p h.0 mid.tc in
    let undo : ResendsUndo old.tc n h.0 mid.tc = subst P at h.1.1 in
    let Q : Request → Type 0 = HasReply in
    let stop = stops old mid mid.tc h.0 i os r new up
    (subst Q (sym undo.request_is) (perform_replied old.tc.session n old.tc.stable undo.op)) h.2 rest in
    let S : TcView → Type 0 = λ tc. Stops old tc h.0 r in
    let R : Request → Type 0 = λ q. Stops old old.tc q r in
    stops_perform old old.tc n undo.op r k refl same (undoing_some old (Some n) k at) undo.requests
    (subst R undo.request_is (subst S undo.unchanged stop))
want_resend old new mid out.Nothing os r n k up at same h d rest = let no : phase.Undoing (Some n) ≡ phase.Running =
    sym at ∙ h.0.1.0 in absurd (cc)
want_resend old new mid (out.Compensated m) os r n k up at same h d rest =
    let no : phase.Undoing (Some n) ≡ phase.Undoing None = sym at ∙ h.0.1.undoing in absurd (cc)
want_resend old new mid (out.Lost t) os r n k up at same h d rest =
    let no : phase.Undoing (Some n) ≡ phase.Undoing None = sym at ∙ h.0.1.undoing in absurd (cc)
want_resend old new mid (out.Refused q) os r n k up at same h d rest = absurd d
want_resend old new mid _ os r n k up at same h d rest = absurd h

running_some : (w : NodeView) → IsKept w → w.tc.phase ≡ phase.Running → 0 < w.tc.session
running_some w k running = let P : Phase → Type 0 = IsPhase w.tc.checkpointed w.tc.session in subst P running k.tc.phase

want_exchange : (old new mid : NodeView) (o : Out) (os : List Out) (r : Refusal) (t : ℕ) → IsKept old → AreRunning old
    → SendsTo old t o mid → IsDone o
    → StopsAt mid (event.Request (length old.requests + 1) ∷ event.Reply (length old.replies + 1) ∷ []) os r new
    → IsWant r
want_exchange old new mid (out.Sent i) os r t k serving h d rest =
    let stop = stops old mid old.tc h.0 i os r new serving.up (request_replied old.tc t h.0 h.1.1) h.2 rest in
    let R : Request → Type 0 = λ x. Stops old old.tc x r in
    let some = running_some old k serving.running in
    elim h.1.1 [
      | inl q ↦ stops_perform old old.tc q.number q.op r k refl serving.session some q.requests (subst R q.is stop)
      | inr q ↦ stops_read old q.read.number q.read.span r k serving some (subst R q.is stop)
    ]
want_exchange old new mid (out.Refused q) os r t k serving h d rest = absurd d
want_exchange old new mid _ os r t k serving h d rest = absurd h

-- the first event of a round
resends : (w : TcView) (t n : ℕ) → w.phase ≡ phase.Running → IsDue w t n → resend_refusal w t ≡ None
resends w t n running due = rw (running, due.is, due.waiting) refl

resends_read : (w : TcView) (t : ℕ) → IsTc w → w.phase ≡ phase.Running → IsReader w t → resend_refusal w t ≡ None
resends_read w t k running reader =
    let o : OpenTxn = reader.open_txn in
    let idle : o.waiting ≡ None =
    (reading_at w o reader.read k (found_own t w.open_txns o reader.is) reader.reading).idle in
    rw (running, reader.is, idle, reader.reading) refl

resends_any : (w : TcView) (t : ℕ) → IsTc w → w.phase ≡ phase.Running
    → ((n : ℕ) × IsDue w t n × (n ≤ w.stable)) ⊎ IsReader w t → resend_refusal w t ≡ None
resends_any w t k running (inl due) = resends w t due.0 running due.1
resends_any w t k running (inr reader) = resends_read w t k running reader

undo_want : (w : TcView) (t : ℕ) (r : Refusal) (new : TcView) → w.phase ≡ phase.Running → IsRolling w t
    → UndoGives w t (Err r) new → IsWant r
undo_want w t r new running rolls h =
    let o : OpenTxn = rolls.open_txn in
    let none : waits o ≡ false = sym (ap is_waiting rolls.is) ∙ rolls.idle t in
    let logged : Bool = undo_logs (find t w.open_txns) in
    let same : undo_refusal w t ≡ first_of ((logged && log_is_spent w.log, NumbersSpent) ∷ []) =
    rw (running, rolls.is, none) refl in
    spent_want (logged && log_is_spent w.log) logged logged w r new
    (subst (λ x. Refuses x logged logged w r new) same h)

reconnect_want : (w : TcView) (r : Refusal) (new : TcView) → ReconnectGives w (Err r) new → IsWant r
reconnect_want w r new (inl h) = spent_want (log_is_spent w.log) true true w r new h
reconnect_want w r new (inr h) = inr (inr h.1)

may_recover : (w : NodeView) → IsRecovering w.tc.stable w.tc.phase → recover_refusal w.tc ≡ None
may_recover w recovering = elim (recovering_at w w.tc.phase refl recovering) [
  | inl at ↦ rw at.2 refl
  | inr at ↦ rw at.1 refl
]

recover_want : (w : NodeView) (r : Refusal) (new : NodeView) → RecoversTo w (out.Refused r) new
    → recover_refusal w.tc ≡ None → IsWant r
recover_want w r new (inl room) none = no_room (recover_refusal w.tc) (sends_at w.tc.phase) r none room.0
recover_want w r new (inr refused) none =
    let logs : Bool = undo_logs_at w.tc.phase in
    want_refused logs logs w.tc r new.tc (subst (λ x. Refuses x logs logs w.tc r new.tc) none refused.0)

-- to log needs a number
spent_only : (w : NodeView) → w.tc.phase ≡ phase.Undoing None
    → recover_refusal w.tc ≡ first_of ((log_is_spent w.tc.log, NumbersSpent) ∷ [])
spent_only w at = rw at refl

lose_want : (w : NodeView) (r : Refusal) (new : NodeView) → w.tc.phase ≡ phase.Undoing None
    → RecoversTo w (out.Refused r) new → IsWant r
lose_want w r new at (inl room) =
    room_spent (log_is_spent w.tc.log) (subst (λ x. LacksRoom x (sends_at w.tc.phase) r) (spent_only w at) room.0)
  where
    room_spent : (b : Bool) → LacksRoom (first_of ((b, NumbersSpent) ∷ [])) (sends_at w.tc.phase) r → IsWant r
    room_spent true h = inr (inl h)
    room_spent false h = inl h.1
lose_want w r new at (inr refused) =
    let logs : Bool = undo_logs_at w.tc.phase in
    spent_want (log_is_spent w.tc.log) logs logs w.tc r new.tc
    (subst (λ x. Refuses x logs logs w.tc r new.tc) (spent_only w at) refused.0)

pub wants : (old new : NodeView) (round : Round) (outs : List Out) (r : Refusal) → IsKept old → IsNextRound old round
    → StopsAt old (events_of old round) outs r new → IsWant r
wants old new round.RestartDc [] r k next (inl h) = inl h.0
wants old new round.RestartDc [] r k next (inr h) =
    elim h.step.0.2.lacks [ inl memory ↦ inl memory | inr device ↦ inr (inr device) ]
wants old new round.RestartDc (o ∷ os) r k next h = absurd h.3
wants old new round.RestartTc [] r k next (inl h) = inl h.0
wants old new round.RestartTc [] r k next (inr h) =
    elim h.step.0.1 [ inl memory ↦ inl memory | inr device ↦ inr (inr device) ]
wants old new round.RestartTc (o ∷ os) r k next h = absurd h.3
wants old new round.Connect [] r k next (inl h) = inl h.0
wants old new round.Connect [] r k next (inr h) = reconnect_want old.tc r new.tc
    (MatchBool-at_true _ _ next.0.tc h.step).0
wants old new round.Connect (o ∷ os) r k next h =
    want_connect old new h.0 o os r k next.0 (MatchBool-at_true _ _ next.0.tc h.1.step) h.2 h.3
wants old new round.Recover [] r k next (inl h) = inl h.0
wants old new round.Recover [] r k next (inr h) =
    recover_want old r new (MatchBool-at_true _ _ next.0.tc h.step) (may_recover old next.1)
wants old new round.Recover (o ∷ os) r k next h =
    let step = MatchBool-at_true _ _ next.0.tc h.1.step in
    elim (recovering_at old old.tc.phase refl next.1) [
      | inl at ↦ want_recover old new h.0 o os r at.0 at.1 k next.0 at.2 next.2 step h.2 h.3
      | inr at ↦ want_resend old new h.0 o os r at.0 k next.0 at.1 next.2 step h.2 h.3
    ]
wants old new round.Lose [] r k next (inl h) = inl h.0
wants old new round.Lose [] r k next (inr h) = lose_want old r new next.undoing
    (MatchBool-at_true _ _ next.up.tc h.step)
wants old new round.Lose (o ∷ os) r k next h = absurd h.3
wants old new (round.Exchange t) [] r k next (inl h) = inl h.0
wants old new (round.Exchange t) [] r k next (inr h) =
    no_cause (resend_refusal old.tc t) r (resends_any old.tc t k.tc next.0.running next.1)
    (MatchBool-at_true _ _ next.0.up.tc h.step).0
wants old new (round.Exchange t) (o ∷ os) r k next h =
    want_exchange old new h.0 o os r t k next.0 (MatchBool-at_true _ _ next.0.up.tc h.1.step) h.2 h.3
wants old new (round.Undo t) [] r k next (inl h) = inl h.0
wants old new (round.Undo t) [] r k next (inr h) =
    undo_want old.tc t r new.tc next.0.running next.1 (MatchBool-at_true _ _ next.0.up.tc h.step).0
wants old new (round.Undo t) (o ∷ os) r k next h = absurd h.3
wants old new round.Force [] r k next (inl h) = inl h.0
wants old new round.Force [] r k (inl next) (inr h) = inr (inr (MatchBool-at_true _ _ next.0.up.tc h.step).0.0)
wants old new round.Force [] r k (inr next) (inr h) = inr (inr (MatchBool-at_true _ _ next.1.up.tc h.step).0.0)
wants old new round.Force (o ∷ os) r k next h = absurd h.3
