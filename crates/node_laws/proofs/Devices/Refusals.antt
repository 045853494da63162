-- Whatever event is refused, it is so for a cause of its own, or since a device failed. So none is for bytes that are no
-- log's.
use Rattle.std.proofs.Common.{◌≡◌, ◌⊎◌, ℕ, Bool, true, false, Option, Some, None, refl, ap, ◌∙◌, subst, inl, inr, true≢false}
use Rattle.std.specs.Prelude.{Err}
use Rattle.std.proofs.lemmas.Bool.{cases_Bool, MatchBool-at_true, MatchBool-at_false}
use Rattle.record_key.specs.Table.{Bytes}
use Rattle.record_key.specs.declared.refusal.Refusal.{Refusal}
use Rattle.record_key.specs.declared.refusal.Refusal.TheVariants.{NoMemory, NotConnected, NotNow, Device, BadBytes}
use Rattle.record_key.specs.FirstCause.{MayRefuse}
use Rattle.tc_locks.specs.declared.span.Span.TheVariants.{Key, Range}
use Rattle.tc_locks.specs.Meant.{range_of}
use Rattle.history.specs.Spans.{Span as Keys}
use Rattle.tc_log.specs.LogView.{spent_refusal}
use Rattle.codec.specs.declared.request.Request.{Request}
use Rattle.codec.specs.declared.request.Request.TheVariants as asks
use Rattle.dc_leaf.specs.Leaf.{LeafView}
use Rattle.dc_leaf.specs.Tops.{is_within, all_within}
use Rattle.dc_tree.specs.Leaves.{leaf_at}
use Rattle.tc_core.specs.TcView.{TcView}
use Rattle.tc_core.specs.OpenTxns.{find}
use Rattle.tc_core.specs.Refusing.{Refuses}
use Rattle.tc_core.specs.Causes.{RefusesTaking, idle_refusal, begin_refusal, commit_refusal, save_refusal, back_refusal, read_refusal, reads_spent, undo_refusal, undo_logs, resend_refusal, running_refusal}
use Rattle.tc_core.specs.Calls.{ReconnectGives}
use Rattle.tc_core.specs.Recovery.{recover_refusal, undo_logs_at}
use Rattle.tc_core.specs.LowWater.{RefusesLow, Announces}
use Rattle.tc_core.specs.Replies.{reply_refusal, logs}
use Rattle.dc_core.specs.DcView.{DcView}
use Rattle.dc_core.specs.Serves.{Stops, StopsUnless, serve_refusal}
use Rattle.dc_core.specs.Tends.{may_merge, MergesTo}
use Rattle.dc_core.specs.dc_store.specs.SystemView.{SystemView}
use Rattle.dc_core.specs.dc_store.specs.Gives.{AcceptGives, CheckpointGives, FlushGives, StopsAppend, StopsCheckpoint, StopsTending, StopsWriting, Tending, SplitsAt, MergesAt, Rests, append_refusal, make_refusal, tending}
use Rattle.node_laws.specs.declared.event.Event.{Event}
use Rattle.node_laws.specs.declared.event.Event.TheVariants as event
use Rattle.node_laws.specs.declared.event.Out.{Out}
use Rattle.node_laws.specs.declared.event.Out.TheVariants as out
use Rattle.node_laws.specs.Component.{LacksDevice}
use Rattle.node_laws.specs.Node.{NodeView, IfUp, IsUnsent, LowersTo, RecoversTo, ServesTo, StepsTo, TakesTo, Unread, Unreplied, down_refusal, is_replied_to}
use Rattle.node_laws.specs.Stepping.{IsStep}
use Rattle.node_laws.specs.Sound.{SaysNoBadBytes}
use Rattle.node_laws.proofs.Devices.Causes.{IsOther, append_other, back_other, begin_other, commit_other, idle_other, is_foreign, make_other, merge_other, other_some, read_other, reads_other, recover_other, refuses_other, reply_other, resend_other, room_other, running_other, save_other, serve_other, spent_other, split_other, undo_other}
use Rattle.node_laws.proofs.Devices.Steps.{range_other}

-- a device failed, or it is a cause of a call's own
abbrev IsOwn : Refusal → Type 0
IsOwn r = (r ≡ Device) ⊎ (is_foreign r ≡ false)

own_as : (r cause : Refusal) → is_foreign cause ≡ false → r ≡ cause → IsOwn r
own_as r cause other is = inr (ap is_foreign is ∙ other)

own_other : (r : Refusal) → is_foreign r ≡ false → IsOwn r
own_other r other = inr other

own_lacks : (r : Refusal) → LacksDevice r → IsOwn r
own_lacks r (inl memory) = own_as r NoMemory refl memory
own_lacks r (inr device) = inl device

own_may : (cause : Option Refusal) (r : Refusal) → IsOther cause → MayRefuse cause r → IsOwn r
own_may (Some c) r o h = own_as r c o h
own_may None r o (inl memory) = own_as r NoMemory refl memory
own_may None r o (inr device) = inl device

-- ---- calls of the transaction component

own_refuses : (cause : Option Refusal) (memory device : Bool) (old : TcView) (r : Refusal) (new : TcView)
    → IsOther cause → Refuses cause memory device old r new → IsOwn r
own_refuses (Some c) memory device old r new o h = own_as r c o h.0
own_refuses None memory device old r new o (inl h) = own_as r NoMemory refl h.1
own_refuses None memory device old r new o (inr h) = inl h.1

own_taking : (cause spent : Option Refusal) (device : Bool) (old : TcView) (t : ℕ) (k : Keys) (r : Refusal)
    (new : TcView) → IsOther cause → IsOther spent → RefusesTaking cause spent device old t k r new → IsOwn r
own_taking (Some c) spent device old t k r new o p h = own_as r c o h.0
own_taking None spent device old t k r new o p (inl h) = inr (ap is_foreign h.1)
own_taking None spent device old t k r new o p (inr h) = own_refuses spent true device old r new p h.1

own_reconnect : (old : TcView) (r : Refusal) (new : TcView) → ReconnectGives old (Err r) new → IsOwn r
own_reconnect old r new (inl h) = own_refuses (spent_refusal old.log) true true old r new (spent_other old) h
own_reconnect old r new (inr h) = inl h.1

own_recover : (old new : NodeView) (r : Refusal) → RecoversTo old (out.Refused r) new → IsOwn r
own_recover old new r (inl h) = own_other r (room_other (recover_refusal old.tc) _ r (recover_other old.tc) h.0)
own_recover old new r (inr h) =
    own_refuses (recover_refusal old.tc) (undo_logs_at old.tc.phase) (undo_logs_at old.tc.phase) old.tc r new.tc
    (recover_other old.tc) h.0

own_low : (old new : NodeView) (l : ℕ) (r : Refusal) → LowersTo old l (out.Refused r) new → IsOwn r
own_low old new l r h = by h.0
  where
    by : RefusesLow old.tc l r ⊎ (Announces old.tc l × (r ≡ NoMemory)) → IsOwn r
    by (inl (inl cause)) = own_other r (other_some (running_refusal old.tc) r (running_other old.tc) cause)
    by (inl (inr beyond)) = inr (ap is_foreign beyond.1)
    by (inr room) = own_as r NoMemory refl room.1

own_take : (old new : NodeView) (i : ℕ) (r : Refusal) → TakesTo old i (out.Refused r) new → IsOwn r
own_take old new i r (inl h) = by h.0
  where
    by : IsUnsent old.replies i r ⊎ Unread old i r → IsOwn r
    by (inl unsent) = inr (ap is_foreign unsent.0)
    by (inr unread) = own_as r NoMemory refl unread.memory
own_take old new i r (inr h) =
    own_refuses (reply_refusal old.tc h.reply) (logs old.tc h.reply) (logs old.tc h.reply) old.tc r new.tc
    (reply_other old.tc h.reply) h.refused

-- ---- calls of the data component

own_append : (cause : Option Refusal) (old : SystemView) (r : Refusal) (new : SystemView) → IsOther cause
    → StopsAppend cause old r new → IsOwn r
own_append cause old r new o h = own_may cause r o h.0

own_merge : (old new : DcView) (k : Bytes) (r : Refusal) → MergesTo old k (Err r) new → IsOwn r
own_merge old new k r h =
    elim (cases_Bool (may_merge old)) [
      | inl may ↦ own_append _ old.system r new.system (merge_other old.system k old.known)
          (MatchBool-at_true _ _ may h).0
      | inr never ↦ own_as r NotNow refl (cc (MatchBool-at_false _ _ never h).0)
    ]

own_tend : (old : SystemView) (what : Tending) (r : Refusal) (new : SystemView) → StopsTending old what r new → IsOwn r
own_tend old (SplitsAt p) r new h = own_append (make_refusal old) old r new (make_other old) h
own_tend old (MergesAt p) r new h = own_append (append_refusal old) old r new (append_other old) h
own_tend old Rests r new h = absurd h

own_writing : (old : SystemView) (leaf : LeafView) (r : Refusal) (new : SystemView) → StopsWriting old leaf r new
    → IsOwn r
own_writing old leaf r new (inl h) = own_as r NoMemory refl h.0
own_writing old leaf r new (inr h) = inl h.0

own_flush : (old : SystemView) (k : Bytes) (known : ℕ) (r : Refusal) (new : SystemView)
    → FlushGives old k known (Err r) new → IsOwn r
own_flush old k known r new h =
    elim (cases_Bool (is_within known (leaf_at old.leaves k))) [
      | inl within ↦ own_writing old (leaf_at old.leaves k) r new (MatchBool-at_true _ _ within h)
      | inr above ↦ own_as r NotNow refl (MatchBool-at_false _ _ above h).0
    ]

own_checkpoint : (old : SystemView) (l known : ℕ) (r : Refusal) (new : SystemView)
    → CheckpointGives old l known (Err r) new → IsOwn r
own_checkpoint old l known r new h =
    elim (cases_Bool (all_within known old.leaves)) [
      | inl within ↦ stops (MatchBool-at_true _ _ within h)
      | inr above ↦ own_as r NotNow refl (MatchBool-at_false _ _ above h).0
    ]
  where
    stops : StopsCheckpoint old l r new → IsOwn r
    stops (inl h) = own_as r NoMemory refl h.0
    stops (inr h) = inl h.0

own_accept : (old : SystemView) (session end : ℕ) (r : Refusal) (new : SystemView)
    → AcceptGives old session end (Err r) new → IsOwn r
own_accept old session end r new (inl h) = own_append (append_refusal old) old r new (append_other old) h
own_accept old session end r new (inr h) = inl h.1

own_stop : (old new : DcView) (q : Request) (r : Refusal) → Stops old q r new → IsOwn r
own_stop old new (asks.Connect session end) r h = own_accept old.system session end r new.system h.1
own_stop old new (asks.Perform session n stable o) r h = own_as r NoMemory refl h.1.0
own_stop old new (asks.Scan session n lo hi) r h = own_as r NoMemory refl h.0
own_stop old new (asks.Checkpoint session l) r h = own_checkpoint old.system l old.known r new.system h.0
own_stop old new (asks.Get session n k) r h = absurd h
own_stop old new (asks.LowWater session l) r h = absurd h
own_stop old new (asks.RedoEnd session) r h = absurd h
own_stop old new (asks.StableEnd session stable) r h = absurd h

own_unless : (cause : Option Refusal) (old new : DcView) (q : Request) (r : Refusal) → IsOther cause
    → StopsUnless cause old q r new → IsOwn r
own_unless (Some c) old new q r o h = own_as r c o h.0
own_unless None old new q r o h = own_stop old new q r h

own_serve : (old new : NodeView) (i : ℕ) (r : Refusal) → ServesTo old i (out.Refused r) new → IsOwn r
own_serve old new i r (inl h) = by h.0
  where
    by : IsUnsent old.requests i r ⊎ Unreplied old i r → IsOwn r
    by (inl unsent) = inr (ap is_foreign unsent.0)
    by (inr room) =
        own_other r
        (room_other (serve_refusal old.dc room.request) (is_replied_to room.request) r (serve_other old.dc room.request)
        room.refused)
own_serve old new i r (inr h) =
    own_unless (serve_refusal old.dc h.0.request) old.dc new.dc h.0.request r (serve_other old.dc h.0.request)
    h.0.gives

-- ---- events

own_if_up : (up : Bool) (refusal : Refusal) (old new : NodeView) (r : Refusal) (Does : Type 0)
    → is_foreign refusal ≡ false → (Does → IsOwn r) → IfUp up refusal old (out.Refused r) new Does → IsOwn r
own_if_up true refusal old new r Does other does h = does h
own_if_up false refusal old new r Does other does h = own_as r refusal other (cc h.0)

owned : (old new : NodeView) (e : Event) (r : Refusal) → StepsTo old e (out.Refused r) new → IsOwn r
owned old new event.Reconnect r h = own_if_up old.tc_up NotConnected old new r _ refl (λ d. own_reconnect old.tc r new.tc d.0) h
owned old new event.Recover r h = own_if_up old.tc_up NotConnected old new r _ refl (own_recover old new r) h
owned old new event.Begin r h =
    own_if_up old.tc_up NotConnected old new r _ refl
    (λ d. own_refuses (begin_refusal old.tc) true true old.tc r new.tc (begin_other old.tc) d.0) h
owned old new (event.Act t op) r h =
    own_if_up old.tc_up NotConnected old new r _ refl
    (λ d. own_taking (idle_refusal old.tc t) (spent_refusal old.tc.log) true old.tc t _ r new.tc (idle_other old.tc t)
    (spent_other old.tc) d.0) h
owned old new (event.Get t k) r h =
    own_if_up old.tc_up NotConnected old new r _ refl
    (λ d. own_taking (read_refusal old.tc t (range_of (Key k))) (reads_spent old.tc.reads) false old.tc t _ r new.tc
    (read_other old.tc t (Key k)) (reads_other old.tc.reads) d.0) h
owned old new (event.Scan t low high) r h =
    own_if_up old.tc_up (down_refusal low high) old new r _ (range_other low high)
    (λ d. own_taking (read_refusal old.tc t (range_of (Range low high))) (reads_spent old.tc.reads) false old.tc t _ r
    new.tc (read_other old.tc t (Range low high)) (reads_other old.tc.reads) d.0) h
owned old new (event.Save t) r h =
    own_if_up old.tc_up NotConnected old new r _ refl
    (λ d. own_refuses (save_refusal old.tc t) true false old.tc r new.tc (save_other old.tc t) d.0) h
owned old new (event.GoBack t p) r h =
    own_if_up old.tc_up NotConnected old new r _ refl
    (λ d. own_refuses (back_refusal old.tc t p) false false old.tc r new.tc (back_other old.tc t p) d.0) h
owned old new (event.Rollback t) r h =
    own_if_up old.tc_up NotConnected old new r _ refl
    (λ d. own_refuses (idle_refusal old.tc t) false false old.tc r new.tc (idle_other old.tc t) d.0) h
owned old new (event.Commit t) r h =
    own_if_up old.tc_up NotConnected old new r _ refl
    (λ d. own_refuses (commit_refusal old.tc t) true true old.tc r new.tc (commit_other old.tc t) d.0) h
owned old new (event.Undo t) r h =
    own_if_up old.tc_up NotConnected old new r _ refl
    (λ d. own_refuses (undo_refusal old.tc t) (undo_logs (find t old.tc.open_txns)) (undo_logs (find t old.tc.open_txns))
    old.tc r new.tc (undo_other old.tc t) d.0) h
owned old new event.Force r h = own_if_up old.tc_up NotConnected old new r _ refl (λ d. inl d.0.0) h
owned old new (event.Send t) r h =
    own_if_up old.tc_up NotConnected old new r _ refl
    (λ d. own_other r (refuses_other (resend_refusal old.tc t) r (resend_other old.tc t) d.0)) h
owned old new (event.LowWater l) r h = own_if_up old.tc_up NotConnected old new r _ refl (own_low old new l r) h
owned old new event.Checkpoint r h =
    own_if_up old.tc_up NotConnected old new r _ refl
    (λ d. own_other r (room_other (running_refusal old.tc) true r (running_other old.tc) d.0)) h
owned old new event.Tell r h =
    own_if_up old.tc_up NotConnected old new r _ refl
    (λ d. own_other r (room_other (running_refusal old.tc) true r (running_other old.tc) d.0)) h
owned old new (event.Split k) r h =
    own_if_up old.dc_up NotConnected old new r _ refl
    (λ d. own_append _ old.dc.system r new.dc.system (split_other old.dc.system k old.dc.known) d.0.0) h
owned old new (event.Merge k) r h =
    own_if_up old.dc_up NotConnected old new r _ refl (λ d. own_merge old.dc new.dc k r d.0) h
owned old new event.Tend r h =
    own_if_up old.dc_up NotConnected old new r _ refl
    (λ d. own_tend old.dc.system (tending old.dc.system (may_merge old.dc) old.dc.known) r new.dc.system d.0.0) h
owned old new (event.Flush k) r h =
    own_if_up old.dc_up NotConnected old new r _ refl
    (λ d. own_flush old.dc.system k old.dc.known r new.dc.system d.0.0) h
owned old new (event.Request i) r h = own_if_up old.dc_up NotConnected old new r _ refl (own_serve old new i r) h
owned old new (event.Reply i) r h = own_if_up old.tc_up NotConnected old new r _ refl (own_take old new i r) h
owned old new (event.CrashTc frames bytes) r h = absurd h
owned old new event.RestartTc r h = own_lacks r h.0.1
owned old new (event.CrashDc frames bytes) r h = absurd h
owned old new event.RestartDc r h = own_lacks r h.0.2.lacks
owned old new (event.FailTc call) r h = absurd h
owned old new (event.FailDc device call) r h = absurd h

never_bad : (n : ℕ) → IsOwn (BadBytes n) → ⊥
never_bad n (inl device) = cc device
never_bad n (inr other) = true≢false other

pub steps_are_readable : (old new : NodeView) (e : Event) (o : Out) → IsStep old e o new → SaysNoBadBytes o
steps_are_readable old new e o h = λ n is.
    never_bad n (owned old new e (BadBytes n) (subst (λ (x : Out). StepsTo old e x new) is h.step))
