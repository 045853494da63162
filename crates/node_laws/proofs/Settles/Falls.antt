-- Each round of settling is one less of those that are left.
use Rattle.std.proofs.lemmas.Bool.{MatchBool-at_true}
use Rattle.std.proofs.Common.{◌≡◌, ℕ, ◌+◌, ◌<◌, ◌≤◌, Bool, true, false, List, [], ◌∷◌, length, Option, Some, None, MatchBool, refl, sym, ap, ◌∙◌, subst, arith, inl, inr, true≢false, eqb-true, eq-eqb, ◌⊎◌}
use Rattle.std.specs.Prelude.{◌==◌, ◌||◌, not, is_some, nat_lt, if◌then◌else◌}
use Rattle.std.specs.List.{list_any}
use Rattle.record_key.specs.declared.op.Op.{Op}
use Rattle.record_key.specs.declared.op.Answer.{Answer}
use Rattle.record_key.specs.Table.{key_of, answer_in}
use Rattle.tc_locks.specs.declared.span.Span.{Span}
use Rattle.tc_locks.specs.declared.span.Span.TheVariants.{Key, Range}
use Rattle.dc_ab_lsn.specs.AbLsn.{saved_in}
use Rattle.dc_tree.specs.Leaves.{leaf_at}
use Rattle.history.specs.declared.record.Record.{Record}
use Rattle.history.specs.declared.record.Record.TheVariants as is
use Rattle.history.specs.Log.{Requests}
use Rattle.codec.specs.declared.request.Request.{Request}
use Rattle.codec.specs.declared.request.Request.TheVariants as asks
use Rattle.codec.specs.declared.reply.Reply.{Reply}
use Rattle.codec.specs.declared.reply.Reply.TheVariants as says
use Rattle.dc_core.specs.DcView.{DcView, leaves, captures_at}
use Rattle.dc_core.specs.Serves.{Serves, runs, connected, knows, performs}
use Rattle.tc_core.specs.declared.open_txn.OpenTxn.{OpenTxn}
use Rattle.tc_core.specs.declared.open_txn.Read.{Read}
use Rattle.tc_core.specs.declared.phase.Phase.{Phase}
use Rattle.tc_core.specs.declared.phase.Phase.TheVariants as phase
use Rattle.tc_core.specs.declared.told.Told.TheVariants as told
use Rattle.tc_core.specs.OpenTxns.{find}
use Rattle.tc_core.specs.tc_restart.specs.Losers.{LosersView}
use Rattle.tc_core.specs.TcView.{TcView, is_none_lost, is_running}
use Rattle.tc_core.specs.Changes.{reconnected, forced, undoing_or_running}
use Rattle.tc_core.specs.Calls.{read_request}
use Rattle.tc_core.specs.Replies.{takes, awaiting, next_phase, on_awaited, on_reply, lacks}
use Rattle.node_laws.proofs.Machine.Waited.{lost_if}
use Rattle.tc_core.specs.Recovery.{SendsAt, ResendsUndo, redo_request, redo_place, redoing}
use Rattle.tc_core.specs.Undo.{FindsRequest}
use Rattle.tc_core.proofs.Finding.{found_own}
use Rattle.tc_core.proofs.KeepsTc.{awaits}
use Rattle.node_laws.specs.declared.event.Event.TheVariants as event
use Rattle.node_laws.specs.declared.event.Out.{Out}
use Rattle.node_laws.specs.declared.event.Out.TheVariants as out
use Rattle.node_laws.specs.declared.round.Round.{Round}
use Rattle.node_laws.specs.declared.round.Round.TheVariants as round
use Rattle.tc_core.specs.Opened.{IsOpenedAgain}
use Rattle.node_laws.specs.Component.{TcSide, DcSide, dc_used}
use Rattle.tc_log.specs.LogView.{last_not_session}
use Rattle.node_laws.specs.Node.{NodeView, AreUp, with_tc, next_connect, ReconnectsTo, RecoversTo, SendsTo, UndoesTo, ForcesTo, RestartsTcTo, RestartsDcTo}
use Rattle.log_laws.proofs.LegalLogs.{request_number}
use Rattle.tc_core.specs.Kept.{IsOwedAnswer as IsDueLost}
use Rattle.node_laws.specs.Kept.{IsKept}
use Rattle.node_laws.specs.Rounds.{IsDone, IsApart, IsRecovering, IsUndoing, IsDue, IsReader, AreRunning, IsNextRound, Plays, events_of}
use Rattle.node_laws.specs.Bound.{requests_in, txn_rounds, phase_rounds, is_busy, is_apart, force_rounds, tc_rounds, without_session, down_rounds, session_rounds, lost_rounds, rounds_left}
use Rattle.node_laws.proofs.Settles.Totals.{total_most, total_share}
use Rattle.node_laws.proofs.Settles.Counting.{fewer_later, none_above}
use Rattle.node_laws.proofs.Settles.Exchanges.{HasReply, Exchanged, exchanged}
use Rattle.node_laws.proofs.Settles.TxnRounds.{unstable_now, txn_later, txn_waiting, txn_reading, some_rolling, some_round}
use Rattle.node_laws.proofs.Settles.RoundsLeft.{FallsTo, falls_by, falls_force, falls_undo, falls_redone, falls_redo_ended, falls_compensated, falls_force_lost, falls_latest, falls_ended, falls_answered, falls_told}
use Rattle.node_laws.proofs.Settles.LostRounds.{lost_later}
use Rattle.node_laws.proofs.Invariant.Running.{run_is}
use Rattle.node_laws.proofs.Settles.Replied.{some_reply, sound_reply, read_reply, told_read, connect_replied, perform_replied, redo_replied, request_replied}

-- where the components have no session in common
apart_rounds : (w : NodeView) → AreUp w → IsApart w → rounds_left w ≡ tc_rounds (without_session w.tc)
apart_rounds w up apart = by (is_apart w.tc.phase) refl (w.dc.session == w.tc.session) refl
  where
    by : (a : Bool) → is_apart w.tc.phase ≡ a → (b : Bool) → (w.dc.session == w.tc.session) ≡ b
        → rounds_left w ≡ tc_rounds (without_session w.tc)
    by true is b same = rw (up.tc, up.dc, is) (omega arith)
    by false is false same = rw (up.tc, up.dc, is, same) (omega arith)
    by false is true same = absurd (elim apart [
      | inl e ↦ true≢false (sym (ap is_apart e) ∙ is)
      | inr (inl e) ↦ true≢false (sym (ap is_apart e) ∙ is)
      | inr (inr e) ↦ e (eqb-true w.dc.session w.tc.session same)
    ])

-- and where they have one
together_rounds : (w : NodeView) → AreUp w → is_apart w.tc.phase ≡ false → w.dc.session ≡ w.tc.session
    → rounds_left w ≡ tc_rounds w.tc
together_rounds w up on same = rw (up.tc, up.dc, on, eq-eqb w.dc.session w.tc.session same) (omega arith)

-- the session goes on
falls_together : (old new : NodeView) → AreUp old → is_apart old.tc.phase ≡ false → old.dc.session ≡ old.tc.session
    → AreUp new → new.dc.session ≡ old.dc.session
    → FallsTo old.tc new.tc → rounds_left new < rounds_left old
falls_together old new up on same up_too session f =
    omega (
      arith,
      f.fewer,
      together_rounds old up on same,
      together_rounds new up_too f.goes_on (session ∙ same ∙ sym f.session),
    )

-- a session that begins leaves no more to do besides
begins_session : (w : NodeView) → IsKept w
    → tc_rounds (record (reconnected w.tc) { phase = phase.Redoing (w.tc.checkpointed + 1) false })
    < tc_rounds (without_session w.tc)
begins_session w k =
    let log : List Record = is.Session ∷ w.tc.log in
    let os : List OpenTxn = w.tc.open_txns in
    let above = none_above (w.tc.checkpointed + 1) (length w.tc.log + 1) is.Session w.tc.log (omega arith) in
    let later = fewer_later 1 (w.tc.checkpointed + 1) (length w.tc.log + 1) w.tc.log (omega arith) in
    let txns = total_most (txn_rounds log (length log)) (txn_rounds w.tc.log w.tc.stable) os
    (λ o. txn_later is.Session w.tc.log w.tc.stable (length log) o refl (omega (arith, k.tc.within))) in
    let lost = lost_later is.Session w.tc.log w.tc.losers.below refl refl in
    omega (arith, above, later, txns, lost)

-- whatever is served to a Connect, its session runs then
connect_runs : (old : DcView) (s end : ℕ) (reply : Option Reply) (new : DcView)
    → Serves old (asks.Connect s end) reply new → new.session ≡ s
connect_runs old s end reply new h = by (runs old s) refl h.1
  where
    by : (b : Bool) → runs old s ≡ b → MatchBool b (new ≡ old) (new ≡ connected old s end) → new.session ≡ s
    by true r same = ap (λ (x : DcView). x.session) same ∙ (run_is old s r).is
    by false r same = ap (λ (x : DcView). x.session) same

falls_connected : (old new : NodeView) (q : Request) → IsKept old → AreUp old → IsApart old
    → q ≡ next_connect old.tc → Exchanged old (reconnected old.tc) q new
    → rounds_left new < rounds_left old
falls_connected old new q k up apart same h =
    let s : ℕ = length old.tc.log + 1 in
    let P : Request → Type 0 = λ x. Serves old.dc x (Some h.reply) h.dc in
    let served = subst P same h.served in
    let reply : h.reply ≡ says.Connected s = some_reply h.reply (says.Connected s) served.0 in
    let tc : TcView = record (reconnected old.tc) { phase = phase.Redoing (old.tc.checkpointed + 1) false } in
    let left : new.tc ≡ tc = h.left ∙ ap (λ x. (on_reply (reconnected old.tc) x).1) reply in
    let session : new.dc.session ≡ new.tc.session =
    ap (λ (x : DcView). x.session) h.dc_is ∙ connect_runs old.dc s (last_not_session old.tc.log)
    (Some h.reply) h.dc served
    ∙ sym (ap (λ (x : TcView). x.session) left) in
    omega (
      arith,
      apart_rounds old up apart,
      together_rounds new (h.up up) (ap (λ (x : TcView). is_apart x.phase) left) session,
      ap tc_rounds left,
      begins_session old k,
    )

abbrev IsNoConnect : Request → Type 0
IsNoConnect (asks.Connect s end) = ⊥
IsNoConnect _ = Unit {0}

-- a request other than a Connect leaves the session
served_session : (old : DcView) (q : Request) (reply : Option Reply) (new : DcView)
    → IsNoConnect q → Serves old q reply new → new.session ≡ old.session
served_session old (asks.Connect s end) reply new other h = absurd other
served_session old (asks.Perform s n stable o) reply new other h = by (captures_at old (key_of o) n) h
  where
    by : (b : Bool)
        → MatchBool b ((reply ≡ Some (says.Answered s n (saved_in (leaf_at (leaves old) (key_of o)).ab.entries n)))
        × (new ≡ knows old stable))
        ((reply ≡ Some (says.Answered s n (Some (answer_in (leaf_at (leaves old) (key_of o)).rows o))))
        × (new ≡ knows (performs old n o) stable)) → new.session ≡ old.session
    by true h = ap (λ (x : DcView). x.session) h.1
    by false h = ap (λ (x : DcView). x.session) h.1
served_session old (asks.Get s n k) reply new other h = ap (λ (x : DcView). x.session) h.1
served_session old (asks.Scan s n low high) reply new other h = ap (λ (x : DcView). x.session) h.1
served_session old (asks.LowWater s l) reply new other h = ap (λ (x : DcView). x.session) h.1
served_session old (asks.Checkpoint s l) reply new other h = ap (λ (x : DcView). x.session) h.2
served_session old (asks.RedoEnd s) reply new other h = ap (λ (x : DcView). x.session) h.1
served_session old (asks.StableEnd s stable) reply new other h = ap (λ (x : DcView). x.session) h.1

-- whatever the answer that was awaited, the session goes on
awaited_session : (w : TcView) (n : ℕ) (a : Option Answer) (x : Option OpenTxn)
    → (on_awaited w n a x).1.session ≡ w.session
awaited_session w n a None = by a (lacks w n)
  where
    by : (a : Option Answer) (b : Bool) → (lost_if w n a b).1.session ≡ w.session
    by None true = refl
    by (Some a) true = refl
    by a false = refl
awaited_session w n None (Some o) = refl
awaited_session w n (Some a) (Some o) = refl

next_on : (p : Phase) (n : ℕ) → is_apart p ≡ false → is_apart (next_phase p n) ≡ false
next_on phase.Unconnected n on = on
next_on phase.Connecting n on = on
next_on (phase.Redoing next ending) n on = refl
next_on (phase.Undoing waiting) n on = refl
next_on phase.Running n on = refl

awaited_on : (w : TcView) (n : ℕ) (a : Option Answer) (x : Option OpenTxn) → is_apart w.phase ≡ false
    → is_apart (on_awaited w n a x).1.phase ≡ false
awaited_on w n a None on = by a (lacks w n)
  where
    by : (a : Option Answer) (b : Bool) → is_apart (lost_if w n a b).1.phase ≡ false
    by None true = on
    by (Some a) true = next_on w.phase n on
    by a false = next_on w.phase n on
awaited_on w n None (Some o) on = on
awaited_on w n (Some a) (Some o) on = next_on w.phase n on

-- a session in which the data component is served
pub record IsTogether (w : NodeView) : Type 0 where
  pub up : AreUp w
  pub on : is_apart w.tc.phase ≡ false
  pub session : w.dc.session ≡ w.tc.session

serving_together : (w : NodeView) → AreRunning w → IsTogether w
serving_together w s = record { up = s.up; on = ap is_apart s.running; session = s.session }

undoing_together : (w : NodeView) (waiting : Option ℕ) → IsUndoing w waiting → IsTogether w
undoing_together w waiting u = record { up = u.up; on = ap is_apart u.undoing; session = u.session }

-- an exchange of a request other than a Connect
falls_within : (old new : NodeView) (tc : TcView) (q : Request) → IsTogether old → IsNoConnect q
    → Exchanged old tc q new → FallsTo old.tc new.tc
    → rounds_left new < rounds_left old
falls_within old new tc q t other h f =
    falls_together old new t.up t.on t.session (h.up t.up)
    (ap (λ (x : DcView). x.session) h.dc_is ∙ served_session old.dc q (Some h.reply) h.dc other h.served) f

redo_other : (w : TcView) (found : Option (ℕ × Op)) → IsNoConnect (redo_request w found)
redo_other w None = tt
redo_other w (Some x) = tt

read_other : (s n : ℕ) (q : Span) → IsNoConnect (read_request s n q)
read_other s n (Key k) = tt
read_other s n (Range low high) = tt

ended_on : (l : LosersView) → is_apart (undoing_or_running l) ≡ false
ended_on l = by (is_none_lost l)
  where
    by : (b : Bool) → is_apart (if b then phase.Running else phase.Undoing None) ≡ false
    by true = refl
    by false = refl

-- the next request of redo is served and answered
falls_redo : (old new : NodeView) (next : ℕ) (ending : Bool) (found : Option (ℕ × Op)) (q : Request) → IsKept old
    → old.tc.phase ≡ phase.Redoing next ending → FindsRequest old.tc.log next old.tc.session found
    → q ≡ redo_request old.tc found
    → Exchanged old (redoing old.tc (redo_place old.tc.session found) (not (is_some found))) q new
    → FallsTo old.tc new.tc
falls_redo old new next ending None q k at finds is h =
    let s : ℕ = old.tc.session in
    let P : Request → Type 0 = λ x. Serves old.dc x (Some h.reply) h.dc in
    let reply : h.reply ≡ says.RedoEnded s = some_reply h.reply (says.RedoEnded s) (subst P is h.served).0 in
    falls_by old.tc new.tc _ (h.left ∙ ap (λ x. (on_reply (redoing old.tc s true) x).1) reply)
    (falls_redo_ended old.tc next ending at) refl (ended_on old.tc.losers)
falls_redo old new next ending (Some x) q k at finds is h =
    let s : ℕ = old.tc.session in
    let n : ℕ = x.0 in
    let w : TcView = redoing old.tc n false in
    let P : Request → Type 0 = λ y. Serves old.dc y (Some h.reply) h.dc in
    let sound = sound_reply old s n old.tc.stable x.1 h.reply h.dc k finds.2 (subst P is h.served) in
    let taken : takes s (phase.Redoing n false) n ≡ true = rw (eq-eqb n n refl) (unstable_now n s finds.1) in
    let left : new.tc ≡ (on_awaited w n sound.answer (awaiting old.tc n)).1 =
    h.left ∙ ap (λ y. (on_reply w y).1) sound.reply_is
    ∙ ap (λ (b : Bool). (if b then on_awaited w n sound.answer (awaiting old.tc n) else (told.Nothing, w)).1)
    taken in
    falls_by old.tc new.tc _ left
    (falls_redone old.tc next ending n x.1 k.tc at finds.0 finds.1 finds.2 sound.answer (awaiting old.tc n) refl
    sound.sound)
    (awaited_session w n sound.answer (awaiting old.tc n)) (awaited_on w n sound.answer (awaiting old.tc n) refl)

-- the compensation that undo awaits is served and answered
falls_resent : (old new : NodeView) (n : ℕ) (o : Op) (q : Request) → IsKept old
    → old.tc.phase ≡ phase.Undoing (Some n) → Requests old.tc.log n o
    → q ≡ asks.Perform old.tc.session n old.tc.stable o
    → Exchanged old old.tc q new → FallsTo old.tc new.tc
falls_resent old new n o q k at requests is h =
    let s : ℕ = old.tc.session in
    let P : Request → Type 0 = λ y. Serves old.dc y (Some h.reply) h.dc in
    let sound = sound_reply old s n old.tc.stable o h.reply h.dc k requests (subst P is h.served) in
    let taken : takes s old.tc.phase n ≡ true = ap (λ (p : Phase). takes s p n) at in
    let left : new.tc ≡ (on_awaited old.tc n sound.answer (awaiting old.tc n)).1 =
    h.left ∙ ap (λ y. (on_reply old.tc y).1) sound.reply_is
    ∙ ap (λ (b : Bool). (if b then on_awaited old.tc n sound.answer (awaiting old.tc n) else (told.Nothing, old.tc)).1)
    taken in
    falls_by old.tc new.tc _ left (falls_compensated old.tc n k.tc at sound.answer (awaiting old.tc n) refl sound.sound)
    (awaited_session old.tc n sound.answer (awaiting old.tc n))
    (awaited_on old.tc n sound.answer (awaiting old.tc n) (ap is_apart at))

-- an unanswered request is served and answered
falls_exchange : (old new : NodeView) (n : ℕ) (o : Op) (x : OpenTxn) (q : Request) → IsKept old
    → old.tc.phase ≡ phase.Running → find x.txn old.tc.open_txns ≡ Some x → x.waiting ≡ Some n
    → Requests old.tc.log n o → q ≡ asks.Perform old.tc.session n old.tc.stable o → Exchanged old old.tc q new
    → FallsTo old.tc new.tc
falls_exchange old new n o x q k running at some requests is h =
    let s : ℕ = old.tc.session in
    let P : Request → Type 0 = λ y. Serves old.dc y (Some h.reply) h.dc in
    let sound = sound_reply old s n old.tc.stable o h.reply h.dc k requests (subst P is h.served) in
    let taken : takes s old.tc.phase n ≡ true = ap (λ (p : Phase). takes s p n) running in
    let waits : awaiting old.tc n ≡ Some x = awaits old.tc x n k.tc at some in
    let left : new.tc ≡ (on_awaited old.tc n sound.answer (Some x)).1 =
    h.left ∙ ap (λ y. (on_reply old.tc y).1) sound.reply_is
    ∙ ap (λ (b : Bool). (if b then on_awaited old.tc n sound.answer (awaiting old.tc n) else (told.Nothing, old.tc)).1)
    taken
    ∙ ap (λ (y : Option OpenTxn). (on_awaited old.tc n sound.answer y).1) waits in
    falls_by old.tc new.tc _ left (falls_answered old.tc n sound.answer x k.tc running at some sound.sound)
    (awaited_session old.tc n sound.answer (Some x)) (awaited_on old.tc n sound.answer (Some x) (ap is_apart running))

-- a read is served and told
falls_read : (old new : NodeView) (o : OpenTxn) (r : Read) (q : Request) → IsKept old → old.tc.phase ≡ phase.Running
    → find o.txn old.tc.open_txns ≡ Some o → o.reading ≡ Some r
    → q ≡ read_request old.tc.session r.number r.span → Exchanged old old.tc q new → FallsTo old.tc new.tc
falls_read old new o r q k running at some is h =
    let s : ℕ = old.tc.session in
    let P : Request → Type 0 = λ x. Serves old.dc x (Some h.reply) h.dc in
    let reply = read_reply s r.number r.span old.dc h.dc h.reply (subst P is h.served) in
    falls_by old.tc new.tc _ (h.left ∙ told_read old.tc o s r.number r.span h.reply k.tc at some reply)
    (falls_told old.tc o r k.tc at some) refl (ap is_apart running)

-- what a round's first event sent, and the rest of the round
falls_connect_round : (old new mid : NodeView) (o : Out) (os : List Out) → IsKept old → AreUp old → IsApart old
    → ReconnectsTo old o mid → IsDone o
    → Plays mid (event.Request (length old.requests + 1) ∷ event.Reply (length old.replies + 1) ∷ []) os new
    → rounds_left new < rounds_left old
falls_connect_round old new mid (out.Connects i cs) os k up apart h d rest =
    let q : Request = next_connect old.tc in
    let exchange = exchanged old mid mid.tc q i os new up (connect_replied (length old.tc.log + 1)
    (last_not_session old.tc.log)) h.1 rest in
    falls_connected old new q k up apart refl (subst (λ tc. Exchanged old tc q new) h.0.3 exchange)
falls_connect_round old new mid (out.Refused r) os k up apart h d rest = absurd d
falls_connect_round old new mid _ os k up apart h d rest = absurd h

falls_recover_round : (old new mid : NodeView) (o : Out) (os : List Out) (next : ℕ) (ending : Bool) → IsKept old
    → IsTogether old → old.tc.phase ≡ phase.Redoing next ending
    → RecoversTo old o mid → IsDone o
    → Plays mid (event.Request (length old.requests + 1) ∷ event.Reply (length old.replies + 1) ∷ []) os new
    → rounds_left new < rounds_left old
falls_recover_round old new mid (out.Sent i) os next ending k t at h d rest =
    let P : Phase → Type 0 = λ p. SendsAt old.tc p h.0 mid.tc in
    let redo = subst P at h.1.1 in
    let Q : Request → Type 0 = HasReply in
    let exchange = exchanged old mid mid.tc h.0 i os new t.up
    (subst Q (sym redo.request_is) (redo_replied old.tc redo.found)) h.2 rest in
    let E : TcView → Type 0 = λ tc. Exchanged old tc h.0 new in
    let there = subst E redo.left exchange in
    falls_within old new _ h.0 t (subst IsNoConnect (sym redo.request_is) (redo_other old.tc redo.found)) there
    (falls_redo old new next ending redo.found h.0 k at redo.finds redo.request_is there)
falls_recover_round old new mid out.Nothing os next ending k t at h d rest =
    let no : phase.Redoing next ending ≡ phase.Running = sym at ∙ h.0.1.0 in absurd (cc)
falls_recover_round old new mid (out.Compensated n) os next ending k t at h d rest =
    let no : phase.Redoing next ending ≡ phase.Undoing None = sym at ∙ h.0.1.undoing in absurd (cc)
falls_recover_round old new mid (out.Lost u) os next ending k t at h d rest =
    let no : phase.Redoing next ending ≡ phase.Undoing None = sym at ∙ h.0.1.undoing in absurd (cc)
falls_recover_round old new mid (out.Refused r) os next ending k t at h d rest = absurd d
falls_recover_round old new mid _ os next ending k t at h d rest = absurd h

falls_resend_round : (old new mid : NodeView) (o : Out) (os : List Out) (n : ℕ) → IsKept old → IsTogether old
    → old.tc.phase ≡ phase.Undoing (Some n)
    → RecoversTo old o mid → IsDone o
    → Plays mid (event.Request (length old.requests + 1) ∷ event.Reply (length old.replies + 1) ∷ []) os new
    → rounds_left new < rounds_left old
falls_resend_round old new mid (out.Sent i) os n k t at h d rest =
    let P : Phase → Type 0 = λ p. SendsAt old.tc p h.0 mid.tc in
    let undo : ResendsUndo old.tc n h.0 mid.tc = subst P at h.1.1 in
    let Q : Request → Type 0 = HasReply in
    let exchange = exchanged old mid mid.tc h.0 i os new t.up
    (subst Q (sym undo.request_is) (perform_replied old.tc.session n old.tc.stable undo.op)) h.2 rest in
    let E : TcView → Type 0 = λ tc. Exchanged old tc h.0 new in
    let there = subst E undo.unchanged exchange in
    falls_within old new _ h.0 t
    (subst IsNoConnect (sym undo.request_is) tt) there
    (falls_resent old new n undo.op h.0 k at undo.requests undo.request_is there)
falls_resend_round old new mid out.Nothing os n k t at h d rest = let no : phase.Undoing (Some n) ≡ phase.Running =
    sym at ∙ h.0.1.0 in absurd (cc)
falls_resend_round old new mid (out.Compensated m) os n k t at h d rest =
    let no : phase.Undoing (Some n) ≡ phase.Undoing None = sym at ∙ h.0.1.undoing in absurd (cc)
falls_resend_round old new mid (out.Lost u) os n k t at h d rest =
    let no : phase.Undoing (Some n) ≡ phase.Undoing None = sym at ∙ h.0.1.undoing in absurd (cc)
falls_resend_round old new mid (out.Refused r) os n k t at h d rest = absurd d
falls_resend_round old new mid _ os n k t at h d rest = absurd h

falls_exchange_round : (old new mid : NodeView) (o : Out) (os : List Out) (t : ℕ) → IsKept old → AreRunning old
    → SendsTo old t o mid → IsDone o
    → Plays mid (event.Request (length old.requests + 1) ∷ event.Reply (length old.replies + 1) ∷ []) os new
    → rounds_left new < rounds_left old
falls_exchange_round old new mid (out.Sent i) os t k serving h d rest =
    let exchange = exchanged old mid old.tc h.0 i os new serving.up (request_replied old.tc t h.0 h.1.1) h.2 rest in
    let on = serving_together old serving in
    elim h.1.1 [
      | inl r ↦
          falls_within old new old.tc h.0 on
          (subst IsNoConnect (sym r.is) tt) exchange
          (falls_exchange old new r.number r.op r.open_txn h.0 k serving.running r.at.is r.waiting r.requests r.is
          exchange)
      | inr r ↦
          falls_within old new old.tc h.0 on
          (subst IsNoConnect (sym r.is) (read_other old.tc.session r.read.number r.read.span)) exchange
          (falls_read old new r.open_txn r.read h.0 k serving.running r.at.is r.reading r.is exchange)
    ]
falls_exchange_round old new mid (out.Refused r) os t k serving h d rest = absurd d
falls_exchange_round old new mid _ os t k serving h d rest = absurd h

-- a step of the transaction component alone
falls_alone : (old new mid : NodeView) → IsTogether old → mid ≡ with_tc old mid.tc → new ≡ mid → FallsTo old.tc mid.tc
    → rounds_left new < rounds_left old
falls_alone old new mid on left same f =
    let P : NodeView → Type 0 = λ x. rounds_left x < rounds_left old in
    subst P (sym same)
    (falls_together old mid on.up on.on on.session (subst AreUp (sym left) (record { tc = on.up.tc; dc = on.up.dc }))
    (ap (λ (x : NodeView). x.dc.session) left) f)

-- the component runs again, whatever else is left
falls_restarted : (old new : NodeView) (o : Out) → old.dc_up ≡ false → RestartsDcTo old o new → IsDone o
    → rounds_left new < rounds_left old
falls_restarted old new (out.Up count) down h d =
    let dc : DcView = dc_used old.dc new.dc.system.log_usage new.dc.system.page_usage in
    let same : new ≡ record old { dc_up = true; dc = dc } =
    h.1 ∙ ap (λ (s : DcSide). record old { dc_up = s.up; dc = s.dc })
    (h.0.2 ∙ ap (λ (x : DcView). record { up = true; dc = x }) h.0.3.is) in
    let P : NodeView → Type 0 = λ x. rounds_left x < rounds_left old in
    subst P (sym same) (let one : down_rounds old.dc_up ≡ 1 = ap down_rounds down in omega (arith, one))
falls_restarted old new out.Nothing down h d = absurd (true≢false (sym h.0.0 ∙ down))
falls_restarted old new (out.Refused r) down h d = absurd d
falls_restarted old new _ down h d = absurd h

-- the transaction component has no session then, as before
falls_tc_restarted : (old new : NodeView) (o : Out) → old.tc_up ≡ false → RestartsTcTo old o new → IsDone o
    → rounds_left new < rounds_left old
falls_tc_restarted old new (out.Up count) down h d =
    let again : IsOpenedAgain old.tc new.tc = h.0.2 in
    let same : new ≡ record old { tc_up = true; tc = new.tc } =
    h.1 ∙ ap (λ (s : TcSide). record old { tc_up = s.up; tc = s.tc }) h.0.3 in
    let P : NodeView → Type 0 = λ x. rounds_left x < rounds_left old in
    let one : down_rounds old.tc_up ≡ 1 = ap down_rounds down in
    let rounds : TcView → ℕ = λ w. session_rounds w old.dc.session in
    let was = ap rounds again.was in
    let now = ap rounds again.is in
    let Q : ℕ → Type 0 = λ below. lost_rounds old.tc.log below ≡ lost_rounds old.tc.log old.tc.losers.below in
    let lost : lost_rounds old.tc.log new.tc.losers.below ≡ lost_rounds old.tc.log old.tc.losers.below =
    subst Q (sym again.below) refl in
    subst P (sym same) (omega (arith, one, was, now, lost))
falls_tc_restarted old new out.Nothing down h d = absurd (true≢false (sym h.0.0 ∙ down))
falls_tc_restarted old new (out.Refused r) down h d = absurd d
falls_tc_restarted old new _ down h d = absurd h

-- redo sends, or a compensation that undo awaits is sent
pub recovering_at : (w : NodeView) (p : Phase) → w.tc.phase ≡ p → IsRecovering w.tc.stable p
    → ((next : ℕ) × (ending : Bool) × (w.tc.phase ≡ phase.Redoing next ending))
    ⊎ ((n : ℕ) × (w.tc.phase ≡ phase.Undoing (Some n)) × (n ≤ w.tc.stable))
recovering_at w phase.Unconnected at h = absurd h
recovering_at w phase.Connecting at h = absurd h
recovering_at w (phase.Redoing next ending) at h = inl (next, ending, at)
recovering_at w (phase.Undoing None) at h = absurd h
recovering_at w (phase.Undoing (Some n)) at h = inr (n, at, h)
recovering_at w phase.Running at h = absurd h

-- a step of the transaction component leaves the rest
undo_left : (old new : NodeView) (t : ℕ) (o : Out) → UndoesTo old t o new → IsDone o → new ≡ with_tc old new.tc
undo_left old new t out.Nothing h d = h.1
undo_left old new t (out.Compensated n) h d = h.1
undo_left old new t (out.RolledBack u) h d = h.1
undo_left old new t (out.Back u s) h d = h.1
undo_left old new t (out.Refused r) h d = absurd d
undo_left old new t _ h d = absurd h

force_left : (old new : NodeView) (o : Out) → ForcesTo old o new → IsDone o → new ≡ with_tc old new.tc
force_left old new (out.Stable n cs) h d = h.1
force_left old new (out.Refused r) h d = absurd d
force_left old new _ h d = absurd h

falls_force_undoing : (old new : NodeView) (n : ℕ) (o : Out) → IsKept old → old.tc.phase ≡ phase.Undoing (Some n)
    → old.tc.stable < n → ForcesTo old o new → IsDone o → FallsTo old.tc new.tc
falls_force_undoing old new n (out.Stable m cs) k at less h d =
    falls_by old.tc new.tc (forced old.tc) h.0.2
    (falls_force_lost old.tc n k.tc at less (request_number old.tc.log n due.op due.requests).bounded) refl
    (ap is_apart at)
  where
    due : IsDueLost old.tc.log old.tc.losers.below n
    due = k.tc.lost.due n at
falls_force_undoing old new n (out.Refused r) k at less h d = absurd d
falls_force_undoing old new n _ k at less h d = absurd h

-- a record of the undo of losers
lose_left : (old new : NodeView) (o : Out) → old.tc.phase ≡ phase.Undoing None → RecoversTo old o new → IsDone o
    → (new ≡ with_tc old new.tc) × FallsTo old.tc new.tc
lose_left old new out.Nothing at h d = let no : phase.Undoing None ≡ phase.Running = sym at ∙ h.0.1.0 in absurd (cc)
lose_left old new (out.Sent i) at h d = let P : Phase → Type 0 = λ p. SendsAt old.tc p h.0 new.tc in
    absurd (subst P at h.1.1)
lose_left old new (out.Compensated n) at h d = (
  h.1,
  record {
    fewer = falls_latest old.tc new.tc n h.0.1;
    session = ap (λ (x : TcView). x.session) h.0.1.left;
    goes_on = ap (λ (x : TcView). is_apart x.phase) h.0.1.left;
  },
)
lose_left old new (out.Lost t) at h d = (
  h.1,
  record {
    fewer = falls_ended old.tc new.tc t h.0.1;
    session = ap (λ (x : TcView). x.session) h.0.1.left;
    goes_on = ap (λ (x : TcView). is_apart x.phase) h.0.1.left ∙ ended_on new.tc.losers;
  },
)
lose_left old new (out.Refused r) at h d = absurd d
lose_left old new _ at h d = absurd h

pub falls : (old new : NodeView) (r : Round) (outs : List Out) → IsKept old → IsNextRound old r
    → Plays old (events_of old r) outs new → rounds_left new < rounds_left old
falls old new r [] k next h = none r h
  where
    none : (r : Round) → Plays old (events_of old r) [] new → rounds_left new < rounds_left old
    none round.RestartDc h = absurd h
    none round.RestartTc h = absurd h
    none round.Connect h = absurd h
    none round.Recover h = absurd h
    none round.Lose h = absurd h
    none (round.Exchange t) h = absurd h
    none (round.Undo t) h = absurd h
    none round.Force h = absurd h
falls old new round.RestartDc (o ∷ []) k next h =
    let P : NodeView → Type 0 = λ x. rounds_left x < rounds_left old in
    subst P (sym h.3) (falls_restarted old h.0 o next h.1.step h.2)
falls old new round.RestartDc (o ∷ p ∷ os) k next h = absurd h.3
falls old new round.RestartTc (o ∷ []) k next h =
    let P : NodeView → Type 0 = λ x. rounds_left x < rounds_left old in
    subst P (sym h.3) (falls_tc_restarted old h.0 o next.1 h.1.step h.2)
falls old new round.RestartTc (o ∷ p ∷ os) k next h = absurd h.3
falls old new round.Connect (o ∷ os) k next h =
    falls_connect_round old new h.0 o os k next.0 next.1 (MatchBool-at_true _ _ next.0.tc h.1.step) h.2 h.3
falls old new round.Recover (o ∷ os) k next h =
    let step = MatchBool-at_true _ _ next.0.tc h.1.step in
    elim (recovering_at old old.tc.phase refl next.1) [
      | inl at ↦ falls_recover_round old new h.0 o os at.0 at.1 k
          (record { up = next.0; on = ap is_apart at.2; session = next.2 }) at.2 step h.2 h.3
      | inr at ↦ falls_resend_round old new h.0 o os at.0 k
          (record { up = next.0; on = ap is_apart at.1; session = next.2 }) at.1 step h.2 h.3
    ]
falls old new round.Lose (o ∷ []) k next h =
    let lost = lose_left old h.0 o next.undoing (MatchBool-at_true _ _ next.up.tc h.1.step) h.2 in
    falls_alone old new h.0 (undoing_together old None next) lost.0 h.3 lost.1
falls old new round.Lose (o ∷ p ∷ os) k next h = absurd h.3
falls old new (round.Exchange t) (o ∷ os) k next h =
    falls_exchange_round old new h.0 o os t k next.0 (MatchBool-at_true _ _ next.0.up.tc h.1.step) h.2 h.3
falls old new (round.Undo t) (o ∷ []) k next h =
    let step = MatchBool-at_true _ _ next.0.up.tc h.1.step in
    falls_alone old new h.0 (serving_together old next.0) (undo_left old h.0 t o step h.2) h.3
    (falls_undo old h.0 t o k next.0.running next.1 step h.2)
falls old new (round.Undo t) (o ∷ p ∷ os) k next h = absurd h.3
falls old new round.Force (o ∷ []) k (inl next) h =
    let step = MatchBool-at_true _ _ next.0.up.tc h.1.step in
    falls_alone old new h.0 (serving_together old next.0) (force_left old h.0 o step h.2) h.3
    (falls_force old h.0 o k next.0.running next.1 step h.2)
falls old new round.Force (o ∷ []) k (inr next) h =
    let step = MatchBool-at_true _ _ next.1.up.tc h.1.step in
    falls_alone old new h.0 (undoing_together old (Some next.0) next.1) (force_left old h.0 o step h.2) h.3
    (falls_force_undoing old h.0 next.0 o k next.1.undoing next.2 step h.2)
falls old new round.Force (o ∷ p ∷ os) k next h = absurd h.3

forced_once : (a b : Bool) → 1 ≤ (if a || (b || true) then 1 else 0)
forced_once true b = omega arith
forced_once false true = omega arith
forced_once false false = omega arith

waits_left : (w : NodeView) (t n : ℕ) → IsKept w → IsDue w.tc t n → 0 < tc_rounds w.tc
waits_left w t n k due =
    let o : OpenTxn = due.open_txn in
    let e = txn_waiting w.tc.log w.tc.stable n o due.waiting in
    let share = total_share (txn_rounds w.tc.log w.tc.stable) o w.tc.open_txns k.tc.open_txns.order
    (found_own t w.tc.open_txns o due.is) in
    omega (arith, e, share, some_round w.tc.stable n)

read_left : (w : NodeView) (t : ℕ) → IsKept w → IsReader w.tc t → 0 < tc_rounds w.tc
read_left w t k reader =
    let o : OpenTxn = reader.open_txn in
    let e = txn_reading w.tc.log w.tc.stable reader.read o reader.reading in
    let share = total_share (txn_rounds w.tc.log w.tc.stable) o w.tc.open_txns k.tc.open_txns.order
    (found_own t w.tc.open_txns o reader.is) in
    omega (arith, e, share)

-- what is left of the session is left
some_together : (w : NodeView) → IsTogether w → 0 < tc_rounds w.tc → 0 < rounds_left w
some_together w t some = let e = together_rounds w t.up t.on t.session in omega (arith, e, some)

-- until the component runs a force is left
undoing_left : (w : NodeView) (waiting : Option ℕ) → IsUndoing w waiting → 0 < rounds_left w
undoing_left w waiting u =
    let goes_on : is_running w.tc.phase ≡ false = ap is_running u.undoing in
    let e : force_rounds w.tc ≡ 1 =
    ap (λ (b : Bool). if not b
    || (list_any is_busy w.tc.open_txns || nat_lt w.tc.stable (length w.tc.log)) then 1 else 0) goes_on in
    some_together w (undoing_together w waiting u) (omega (arith, e))

-- where a round applies, one at least is left
pub some_left : (w : NodeView) (r : Round) → IsKept w → IsNextRound w r → 0 < rounds_left w
some_left w round.RestartDc k next = let one : down_rounds w.dc_up ≡ 1 = ap down_rounds next in omega (arith, one)
some_left w round.RestartTc k next = let one : down_rounds w.tc_up ≡ 1 = ap down_rounds next.1 in omega (arith, one)
some_left w round.Connect k next = let e = apart_rounds w next.0 next.1 in omega (arith, e)
some_left w round.Recover k next = elim (recovering_at w w.tc.phase refl next.1) [
  | inl at ↦
      let e : phase_rounds w.tc.log w.tc.session w.tc.phase ≡ requests_in at.0 w.tc.session w.tc.log + 1 =
      ap (phase_rounds w.tc.log w.tc.session) at.2 in
      some_together w (record { up = next.0; on = ap is_apart at.2; session = next.2 }) (omega (arith, e))
  | inr at ↦ undoing_left w (Some at.0) (record { undoing = at.1; up = next.0; session = next.2 })
]
some_left w round.Lose k next = undoing_left w None next
some_left w (round.Exchange t) k next =
    some_together w (serving_together w next.0)
    (elim next.1 [ inl due ↦ waits_left w t due.0 k due.1 | inr reader ↦ read_left w t k reader ])
some_left w (round.Undo t) k next =
    let o : OpenTxn = next.1.open_txn in
    let e = some_rolling w.tc.log w.tc.stable o next.1.rolling in
    some_together w (serving_together w next.0)
    (omega (
      arith,
      e,
      total_share (txn_rounds w.tc.log w.tc.stable) o w.tc.open_txns k.tc.open_txns.order
          (found_own t w.tc.open_txns o next.1.is),
    ))
some_left w round.Force k (inr next) = undoing_left w (Some next.0) next.1
some_left w round.Force k (inl next) = some_together w (serving_together w next.0) (elim next.1 [
  | inl due ↦ waits_left w due.0 due.1 k due.2
  | inr idle ↦
      let busy : Bool = list_any is_busy w.tc.open_txns in
      let e : force_rounds w.tc ≡ (if not (is_running w.tc.phase) || (busy || true) then 1 else 0) =
      ap (λ (b : Bool). if not (is_running w.tc.phase) || (busy || b) then 1 else 0)
      (unstable_now w.tc.stable (length w.tc.log) idle.2) in
      omega (arith, e, forced_once (not (is_running w.tc.phase)) busy)
])
