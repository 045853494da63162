-- Each call of the transaction component keeps what holds of it.
use Rattle.std.proofs.Common.{◌≡◌, ℕ, ◌+◌, ◌<◌, ◌≤◌, Bool, true, false, List, [], ◌∷◌, length, Option, Some, None, is_some, refl, sym, ap, ◌∙◌, subst, arith, inl, inr, true≢false}
use Rattle.std.specs.Prelude.{◌&&◌, ◌||◌, IsSome, Result, Ok, Err, not, nat_le, nat_lt, if◌then◌else◌}
use Rattle.std.proofs.lemmas.Bool.Decides.{nat_tests}
use Rattle.record_key.specs.declared.op.Op.{Op}
use Rattle.record_key.specs.declared.op.Answer.{Answer}
use Rattle.record_key.specs.declared.refusal.Refusal.{Refusal}
use Rattle.record_key.specs.declared.refusal.Refusal.TheVariants.{Full, BadRange, BadSavepoint, NumbersSpent, Stale}
use Rattle.record_key.specs.FirstCause.{first_of}
use Rattle.record_key.specs.Table.{Bytes}
use Rattle.history.specs.declared.record.Record.TheVariants as is
use Rattle.tc_locks.specs.Meant.{range_of}
use Rattle.history.specs.Spans.{changed_span}
use Rattle.record_key.specs.Order.{ends_above, HasKeys}
use Rattle.history.specs.Legal.{Fits, IsLatestOrNone, Stands, Inverts}
use Rattle.history.specs.Log.{record_at, answer_of, IsOpBy}
use Rattle.tc_locks.specs.declared.span.Span.{Span}
use Rattle.tc_locks.specs.Locks.{IsGrantable}
use Rattle.tc_log.specs.LogView.{is_spent, spent_refusal}
use Rattle.codec.specs.declared.reply.Reply.{Reply}
use Rattle.codec.specs.declared.reply.Reply.TheVariants as says
use Rattle.tc_core.specs.declared.open_txn.OpenTxn.{OpenTxn}
use Rattle.tc_core.specs.declared.open_txn.Rollback.{Rollback}
use Rattle.tc_core.specs.declared.phase.Phase.{Phase}
use Rattle.tc_core.specs.declared.phase.Phase.TheVariants as phase
use Rattle.tc_core.specs.declared.told.Connecting.{Connecting}
use Rattle.tc_core.specs.declared.told.Forced.{Forced}
use Rattle.tc_core.specs.declared.told.Told.{Told}
use Rattle.tc_core.specs.declared.told.Told.TheVariants as told
use Rattle.tc_core.specs.declared.told.UndoStep.{UndoStep}
use Rattle.tc_core.specs.declared.told.UndoStep.TheVariants as undo
use Rattle.tc_core.specs.declared.told.RecoverStep.TheVariants as step
use Rattle.tc_core.specs.OpenTxns.{find}
use Rattle.stable.specs.Usage.{failed}
use Rattle.tc_core.specs.TcView.{TcView}
use Rattle.tc_core.specs.Refusing.{Refuses}
use Rattle.tc_core.specs.Causes.{begin_refusal, idle_refusal, is_full, answered_refusal, undo_refusal, undo_logs, logs_next, saves_of, has_savepoint, reads_spent, RefusesTaking, commit_refusal, serving_refusal}
use Rattle.tc_log.specs.Undoing.{inverse_at, next_at}
use Rattle.tc_core.specs.Changes.{shared, logged_session, committed, answered, was_told, checkpointed}
use Rattle.tc_core.specs.Calls.{ReconnectGives, BeginGives, ActGives, ReadGives, SaveGives, BackGives, RollbackGives, CommitGives, UndoGives, ForceGives, Undoes, IsAt}
use Rattle.tc_core.specs.Replies.{ReplyGives, Outcome, on_reply, on_answered, on_awaited, on_lost, lacks, passed, on_connected, on_redo_ended, on_row, on_rows, on_checkpointed, is_number, awaiting, reader, takes, is_key, is_range, span_read, is_logged, is_stale, answered_refusal_of, reply_refusal}
use Rattle.tc_core.specs.Recovery.{RecoverGives, SendsAt, redoing, redo_place}
use Rattle.tc_core.specs.LowWater.{LowWaterGives}
use Rattle.tc_core.specs.Checkpoint.{CheckpointGives}
use Rattle.tc_core.specs.Undo.{FindsRequest}
use Rattle.tc_core.specs.Kept.{IsTc, IsPhase}
use Rattle.tc_core.proofs.OpenedLosers.{number_is}
use Rattle.tc_core.proofs.KeepsTc.{keeps_used, keeps_logged, keeps_force, keeps_session, keeps_begin, keeps_act, keeps_rollback, keeps_save, keeps_back, keeps_is_back, keeps_answer, keeps_passed, newly_answered, awaited_is, open_at, idle_at}
use Rattle.tc_core.proofs.KeepsUndo.{keeps_comp, fits_end, keeps_end, keeps_commit}
use Rattle.tc_core.proofs.KeepsReads.{keeps_ask, keeps_told, reader_is}
use Rattle.tc_core.proofs.KeepsLost.{not_lacking, keeps_lost_answer, keeps_connected, keeps_redoing, keeps_redo_ended}
use Rattle.tc_core.proofs.KeepsLow.{keeps_announced, keeps_asked, keeps_checkpointed}
use Rattle.log_laws.proofs.Undo.{earlier_found}
use Rattle.log_laws.proofs.Records.{op_step, op_request}
use Rattle.tc_undo.specs.NextUndo.{IsUndone}
use Rattle.std.proofs.Math.Bool.{or-true}
use Rattle.codec.specs.declared.request.Request.{Request}
use Rattle.tc_core.proofs.KeepsUndo.{undo_found}
use Rattle.node_laws.proofs.Machine.Undone.{undone_above}
use Rattle.tc_core.proofs.Refused.{at_number}
use Rattle.node_laws.proofs.Machine.Idle.{IsIdleTxn, both_none, one_false, two_false, idle_found, found_idle, waits_for_none, not_not, serves_clients}

-- no number is spent
unspent : (b : Bool) → first_of ((b, NumbersSpent) ∷ []) ≡ None → b ≡ false
unspent b h = one_false b NumbersSpent h

-- a refused call leaves all as it was, or one failure more
refused_keeps : (cause : Option Refusal) (memory device : Bool) (old new : TcView) (r : Refusal) → IsTc old
    → Refuses cause memory device old r new → IsTc new
refused_keeps (Some c) memory device old new r k h = subst IsTc (sym h.1) k
refused_keeps None memory device old new r k (inl h) = subst IsTc (sym h.2) k
refused_keeps None memory device old new r k (inr h) = subst IsTc (sym h.2) (keeps_used old (failed old.usage) k)

pub session_keeps : (w : TcView) → IsTc w → spent_refusal w.log ≡ None → IsTc (logged_session w)
session_keeps w k free = keeps_logged w k (unspent (is_spent w.log) free)

pub reconnect_keeps : (old new : TcView) (x : Result Connecting Refusal) → IsTc old → ReconnectGives old x new
    → IsTc new
reconnect_keeps old new (Ok c) k h = subst IsTc (sym h.3) (keeps_session old k (unspent (is_spent old.log) h.0))
reconnect_keeps old new (Err r) k (inl h) = refused_keeps (spent_refusal old.log) true true old new r k h
reconnect_keeps old new (Err r) k (inr h) =
    subst IsTc (sym h.2) (keeps_used (logged_session old) (failed (logged_session old).usage) (session_keeps old k h.0))

pub begin_keeps : (old new : TcView) (x : Result ℕ Refusal) → IsTc old → BeginGives old x new → IsTc new
begin_keeps old new (Ok t) k h =
    let two = two_false (is_full old.open_txns) (is_spent old.log) Full NumbersSpent
    (both_none (serving_refusal old) (first_of ((is_full old.open_txns, Full) ∷ (is_spent old.log, NumbersSpent) ∷ []))
    h.0).1 in
    subst IsTc (sym h.2) (keeps_begin old k (grind (arith, nat_tests, two.0)) two.1)
begin_keeps old new (Err r) k h = refused_keeps (begin_refusal old) true true old new r k h

taking_keeps : (cause spent : Option Refusal) (device : Bool) (old new : TcView) (t : ℕ)
    (s : Rattle.history.specs.Spans.Span) (r : Refusal)
    → IsTc old → RefusesTaking cause spent device old t s r new → IsTc new
taking_keeps (Some c) spent device old new t s r k h = subst IsTc (sym h.1) k
taking_keeps None spent device old new t s r k (inl h) = subst IsTc (sym h.3) k
taking_keeps None spent device old new t s r k (inr h) = refused_keeps spent true device old new r k h.1

pub act_keeps : (old new : TcView) (t : ℕ) (op : Op) (x : Result ℕ Refusal) → IsTc old → ActGives old t op x new
    → IsTc new
act_keeps old new t op (Ok n) k h =
    let o : OpenTxn = h.open_txn in
    let idle = idle_found old t o h.at h.allowed in
    let free : IsGrantable old.locks o.txn (changed_span op) =
    subst (λ (x : ℕ). IsGrantable old.locks x (changed_span op)) (sym h.at.number) h.free in
    subst IsTc (sym h.acted)
    (keeps_act old o op k h.at.is idle.waiting idle.reading idle.rolling free
    (unspent (is_spent old.log) h.unspent))
act_keeps old new t op (Err r) k h =
    taking_keeps (idle_refusal old t) (spent_refusal old.log) true old new t (changed_span op) r k h

pub read_keeps : (old new : TcView) (t : ℕ) (s : Span) (x : Result ℕ Refusal) → IsTc old → ReadGives old t s x new
    → IsTc new
read_keeps old new t s (Ok n) k h =
    let o : OpenTxn = h.open_txn in
    let allowed = both_none (first_of ((not (ends_above (range_of s).hi (range_of s).lo), BadRange) ∷ []))
    (idle_refusal old t) h.allowed in
    let idle = idle_found old t o h.at allowed.1 in
    let range : HasKeys (range_of s) =
    not_not (ends_above (range_of s).hi (range_of s).lo)
    (one_false (not (ends_above (range_of s).hi (range_of s).lo)) BadRange allowed.0) in
    let free : IsGrantable old.locks o.txn (shared s) =
    subst (λ (x : ℕ). IsGrantable old.locks x (shared s)) (sym h.at.number) h.free in
    let less = unspent (nat_le 281474976710655 old.reads) h.unspent in
    subst IsTc (sym h.asked)
    (keeps_ask old o s k h.at.is idle.waiting idle.rolling range free (grind (arith, nat_tests, less)))
read_keeps old new t s (Err r) k h = taking_keeps _ (reads_spent old.reads) false old new t (shared s) r k h

pub save_keeps : (old new : TcView) (t : ℕ) (x : Result ℕ Refusal) → IsTc old → SaveGives old t x new → IsTc new
save_keeps old new t (Ok s) k h =
    let o : OpenTxn = h.open_txn in
    let idle = idle_found old t o h.at
    (both_none (idle_refusal old t) (first_of ((nat_le 16 (length (saves_of (find t old.open_txns))), Full) ∷ []))
    h.allowed).0 in
    subst IsTc (sym h.saved) (keeps_save old o k h.at.is idle.waiting idle.reading)
save_keeps old new t (Err r) k h = refused_keeps _ true false old new r k h

pub back_keeps : (old new : TcView) (t s : ℕ) (x : Result (Unit {0}) Refusal) → IsTc old → BackGives old t s x new
    → IsTc new
back_keeps old new t s (Ok u) k h =
    let o : OpenTxn = h.open_txn in
    let idle = idle_found old t o h.at
    (both_none (idle_refusal old t)
    (first_of ((not (has_savepoint (saves_of (find t old.open_txns)) s), BadSavepoint) ∷ [])) h.allowed).0 in
    subst IsTc (sym h.going) (keeps_back old o k h.at.is idle.waiting idle.reading s h.end h.savepoint)
back_keeps old new t s (Err r) k h = refused_keeps _ false false old new r k h

pub rollback_keeps : (old new : TcView) (t : ℕ) (x : Result (Unit {0}) Refusal) → IsTc old → RollbackGives old t x new
    → IsTc new
rollback_keeps old new t (Ok u) k h =
    let idle = idle_found old t h.open_txn h.at h.allowed in
    subst IsTc (sym h.rolled) (keeps_rollback old h.open_txn k h.at.is idle.waiting idle.reading)
rollback_keeps old new t (Err r) k h = refused_keeps (idle_refusal old t) false false old new r k h

-- the transaction that a commit names was found idle
pub record IsIdleAt (w : TcView) (t : ℕ) : Type 0 where
  pub open_txn : OpenTxn
  pub at : IsAt w t open_txn
  pub idle : IsIdleTxn open_txn

pub commit_found : (w : TcView) (t : ℕ) → commit_refusal w t ≡ None → IsIdleAt w t
commit_found w t h = by (find t w.open_txns) refl
  where
    allowed : idle_refusal w t ≡ None
    allowed = (both_none (idle_refusal w t) (spent_refusal w.log) h).0

    by : (x : Option OpenTxn) → find t w.open_txns ≡ x → IsIdleAt w t
    by None none = absurd (true≢false (sym (found_idle w t allowed) ∙ ap is_some none))
    by (Some o) some =
        let at : IsAt w t o = record {
          is = Rattle.tc_core.proofs.Finding.found_own t w.open_txns o some;
          number = Rattle.tc_core.proofs.Finding.found_number t w.open_txns o some;
        } in
        record { open_txn = o; at = at; idle = idle_found w t o at allowed }

pub commit_keeps : (old new : TcView) (t : ℕ) (x : Result ℕ Refusal) → IsTc old → CommitGives old t x new → IsTc new
commit_keeps old new t (Ok n) k h =
    let found = commit_found old t h.0 in
    let free = unspent (is_spent old.log) (both_none (idle_refusal old t) (spent_refusal old.log) h.0).1 in
    subst IsTc (sym h.2) (subst (λ (x : ℕ). IsTc (committed old x)) found.at.number
    (keeps_commit old found.open_txn k found.at.is found.idle.waiting free))
commit_keeps old new t (Err r) k h = refused_keeps (commit_refusal old t) true true old new r k h

pub force_keeps : (old new : TcView) (x : Result Forced Refusal) → IsTc old → ForceGives old x new → IsTc new
force_keeps old new (Ok f) k h = subst IsTc (sym h.2) (keeps_force old k)
force_keeps old new (Err r) k h = subst IsTc (sym h.1) (keeps_used old (failed old.usage) k)

pub low_water_keeps : (old new : TcView) (l : ℕ) (x : Result Request Refusal) → IsTc old → LowWaterGives old l x new
    → IsTc new
low_water_keeps old new l (Ok q) k h = subst IsTc (sym h.2) (keeps_announced old k l h.0.allowed)
low_water_keeps old new l (Err r) k h = subst IsTc (sym h.1) k

pub checkpoint_keeps : (old new : TcView) (x : Result Request Refusal) → IsTc old → CheckpointGives old x new → IsTc new
checkpoint_keeps old new (Ok q) k h = subst IsTc (sym h.2) (keeps_asked old k (serves_clients old h.0))
checkpoint_keeps old new (Err r) k h = subst IsTc (sym h.1) k

-- what is left to undo can be compensated
fits_comp : (w : TcView) (o : OpenTxn) → IsTc w → find o.txn w.open_txns ≡ Some o → o.waiting ≡ None → 0 < o.undo
    → Fits w.log (is.Comp o.txn o.undo (next_at w.log o.undo) (inverse_at w.log o.undo))
fits_comp w o k at none some = by (undo_found w o k at)
  where
    by : IsLatestOrNone (Stands w.log o.txn) o.undo
        → Fits w.log (is.Comp o.txn o.undo (next_at w.log o.undo) (inverse_at w.log o.undo))
    by (inr zero) = absurd (omega (arith, zero.0, some))
    by (inl latest) =
        let h = open_at w o k at in
        let idle = idle_at w.log o h none in
        let stands = latest.is in
        record {
          open_txn = h.is;
          idle = idle;
          latest = latest;
          next = earlier_found w.log o.txn o.undo k.legal stands;
          inverse = inverted (answer_of w.log o.undo) refl stands.op stands.is
              (idle o.undo stands.op (op_step o.txn stands.op (record_at w.log o.undo) stands.is)
              (op_request o.txn stands.op (record_at w.log o.undo) stands.is));
        }
      where
        inverted : (a : Option Answer) → answer_of w.log o.undo ≡ a → (op : Op) → IsOpBy w.log o.undo o.txn op
            → IsSome (answer_of w.log o.undo) → Inverts w.log o.undo (inverse_at w.log o.undo)
        inverted None is op by some = absurd (true≢false (sym some ∙ ap is_some is))
        inverted (Some a) is op by some =
            record { txn = o.txn; op = op; answer = a; is = by; answered = is; inverse = rw (by, is) refl }

-- a step of a rollback
logged_unspent : (l s : Bool) → l ≡ true → first_of ((l && s, NumbersSpent) ∷ []) ≡ None → s ≡ false
logged_unspent true s is h = one_false s NumbersSpent h
logged_unspent false s is h = absurd (true≢false (sym is))

undoes_keeps : (old new : TcView) (t : ℕ) (o : OpenTxn) (x : Option Rollback) (step : UndoStep) → IsTc old
    → IsAt old t o → undo_refusal old t ≡ None → o.rolling ≡ x → Undoes old o x step new → IsTc new
undoes_keeps old new t o None undo.Idle k at allowed rolling h = subst IsTc (sym h) k
undoes_keeps old new t o None (undo.Compensated n) k at allowed rolling h = absurd h
undoes_keeps old new t o None (undo.RolledBack u) k at allowed rolling h = absurd h
undoes_keeps old new t o None (undo.Back u s) k at allowed rolling h = absurd h
undoes_keeps old new t o (Some r) undo.Idle k at allowed rolling h = absurd h
undoes_keeps old new t o (Some r) (undo.Compensated n) k at allowed rolling h =
    let found = at_number old t o at in
    let both = both_none (answered_refusal old t)
    (first_of ((undo_logs (find t old.open_txns) && is_spent old.log, NumbersSpent) ∷ [])) allowed in
    let above : nat_lt r.above o.undo ≡ true = grind (arith, nat_tests, h.0) in
    let logged : undo_logs (find t old.open_txns) ≡ true =
    ap undo_logs found ∙ ap (logs_next o.undo) rolling ∙ ap (λ b. b || not (is_some r.savepoint)) above in
    let none = waits_for_none old t o at both.0 in
    subst IsTc (sym h.2) (keeps_comp old o r k at.is none.0 rolling
    (fits_comp old o k at.is none.0 (omega (arith, h.0)))
    (logged_unspent (undo_logs (find t old.open_txns)) (is_spent old.log) logged both.1))
undoes_keeps old new t o (Some r) (undo.RolledBack u) k at allowed rolling h =
    let found = at_number old t o at in
    let both = both_none (answered_refusal old t)
    (first_of ((undo_logs (find t old.open_txns) && is_spent old.log, NumbersSpent) ∷ [])) allowed in
    let logged : undo_logs (find t old.open_txns) ≡ true =
    ap undo_logs found ∙ ap (logs_next o.undo) rolling
    ∙ ap (λ (s : Option ℕ). nat_lt r.above o.undo || not (is_some s)) h.1 ∙ or-true (nat_lt r.above o.undo) in
    let none = waits_for_none old t o at both.0 in
    let zero : r.above ≡ 0 = ((open_at old o k at.is).rolling r rolling).whole h.1 in
    let undone : IsUndone old.log o.txn 0 =
    λ n stands. omega (arith, undone_above old o r k at.is h.0 n stands, zero) in
    subst IsTc (sym h.3) (keeps_end old o k at.is (fits_end old o k at.is none.0 undone)
    (logged_unspent (undo_logs (find t old.open_txns)) (is_spent old.log) logged both.1))
undoes_keeps old new t o (Some r) (undo.Back u s) k at allowed rolling h =
    let both = both_none (answered_refusal old t)
    (first_of ((undo_logs (find t old.open_txns) && is_spent old.log, NumbersSpent) ∷ [])) allowed in
    let none = waits_for_none old t o at both.0 in
    subst IsTc (sym h.3) (keeps_is_back old o k at.is none.0 none.1)

pub undo_keeps : (old new : TcView) (t : ℕ) (x : Result UndoStep Refusal) → IsTc old → UndoGives old t x new → IsTc new
undo_keeps old new t (Ok step) k h =
    undoes_keeps old new t h.open_txn h.open_txn.rolling step k h.at h.allowed refl h.undoes
undo_keeps old new t (Err r) k h =
    refused_keeps (undo_refusal old t) (undo_logs (find t old.open_txns)) (undo_logs (find t old.open_txns)) old new r k
    h

-- a request of recovery
redoing_keeps : (w : TcView) (next : ℕ) (ending : Bool) (found : Option (ℕ × Op)) → IsTc w
    → w.phase ≡ phase.Redoing next ending → next ≤ w.session
    → FindsRequest w.log next w.session found → IsTc (redoing w (redo_place w.session found) (not (is_some found)))
redoing_keeps w next ending None k at most h =
    keeps_redoing w k next ending w.session true at most (omega arith) (λ e. refl) h
redoing_keeps w next ending (Some x) k at most h =
    keeps_redoing w k next ending x.0 false at h.0 (omega (arith, h.1)) (λ e. absurd (true≢false (sym e))) h.3

sends_keeps : (old new : TcView) (p : Phase) (q : Request) → IsTc old → old.phase ≡ p → SendsAt old p q new → IsTc new
sends_keeps old new phase.Unconnected q k at h = absurd h
sends_keeps old new phase.Connecting q k at h = subst IsTc (sym h.1) k
sends_keeps old new phase.Running q k at h = absurd h
sends_keeps old new (phase.Undoing None) q k at h = absurd h
sends_keeps old new (phase.Undoing (Some n)) q k at h = subst IsTc (sym h.unchanged) k
sends_keeps old new (phase.Redoing next ending) q k at h =
    let bounds = subst (IsPhase old.checkpointed old.session) at k.phase in
    subst IsTc (sym h.left) (redoing_keeps old next ending h.found k at bounds.1 h.finds)

pub recover_keeps : (old new : TcView) (q : Request) → IsTc old → RecoverGives old (Ok (step.Sends q)) new → IsTc new
recover_keeps old new q k h = sends_keeps old new old.phase q k refl h.1

-- a reply
answered_keeps : (w : TcView) (n : ℕ) (a : Option Answer) → IsTc w → answered_refusal_of w n a ≡ None
    → IsTc (on_answered w n a).1
answered_keeps w n a k allowed = pick (takes w.session w.phase n) refl
  where
    lost_if : Option Answer → Bool → Outcome
    lost_if a b = if b then on_lost w n a else (told.Nothing, passed w n)

    unawaited : takes w.session w.phase n ≡ true → (a : Option Answer) → awaiting w n ≡ None
        → first_of ((is_logged w n a None && is_spent w.log, NumbersSpent) ∷ []) ≡ None
        → (b : Bool) → lacks w n ≡ b → IsTc (lost_if a b).1
    unawaited takes a none free false lacks_none = keeps_passed w n takes (not_lacking w n lacks_none) k
    unawaited takes None none free true lacking = k
    unawaited takes (Some a) none free true lacking =
        keeps_lost_answer w k n a lacking none takes
        (logged_unspent (is_logged w n (Some a) None) (is_spent w.log) (rw (takes, lacking) refl) free)

    taken : takes w.session w.phase n ≡ true → (a : Option Answer) (x : Option OpenTxn) → awaiting w n ≡ x
        → first_of ((is_logged w n a x && is_spent w.log, NumbersSpent) ∷ []) ≡ None
        → IsTc (on_awaited w n a x).1
    taken takes a None none free = unawaited takes a none free (lacks w n) refl
    taken takes None (Some o) some free = k
    taken takes (Some a) (Some o) some free =
        let at = awaited_is w n o some in
        keeps_passed (answered w o n a) n takes (λ q asks. newly_answered w.log n a)
        (keeps_answer w o n a k at.0 at.1
        (logged_unspent (is_logged w n (Some a) (Some o)) (is_spent w.log) takes free))

    pick : (b : Bool) → takes w.session w.phase n ≡ b
        → IsTc (if b then on_awaited w n a (awaiting w n) else (told.Nothing, w)).1
    pick true takes = taken takes a (awaiting w n) refl allowed
    pick false none = k

connected_keeps : (w : TcView) (p : Phase) → IsTc w → w.phase ≡ p → IsTc (on_connected w p).1
connected_keeps w phase.Connecting k at = keeps_connected w k at
connected_keeps w phase.Unconnected k at = k
connected_keeps w (phase.Redoing next ending) k at = k
connected_keeps w (phase.Undoing waiting) k at = k
connected_keeps w phase.Running k at = k

redo_ended_keeps : (w : TcView) (p : Phase) → IsTc w → w.phase ≡ p → IsTc (on_redo_ended w p).1
redo_ended_keeps w phase.Unconnected k at = k
redo_ended_keeps w phase.Connecting k at = k
redo_ended_keeps w (phase.Redoing next false) k at = k
redo_ended_keeps w (phase.Redoing next true) k at = keeps_redo_ended w k next at
redo_ended_keeps w (phase.Undoing waiting) k at = k
redo_ended_keeps w phase.Running k at = k

checkpointed_keeps : (w : TcView) (l : ℕ) → IsTc w
    → first_of ((is_number w.checkpointing l && is_spent w.log, NumbersSpent) ∷ []) ≡ None
    → IsTc (on_checkpointed w l).1
checkpointed_keeps w l k free = pick (is_number w.checkpointing l) refl
  where
    logged_if : Bool → Outcome
    logged_if b = if b then (told.CheckpointLogged (length w.log + 1), checkpointed w l) else (told.Nothing, w)

    pick : (b : Bool) → is_number w.checkpointing l ≡ b → IsTc (logged_if b).1
    pick true asks = keeps_checkpointed w k l (number_is w.checkpointing l asks)
        (logged_unspent (is_number w.checkpointing l) (is_spent w.log) asks free)
    pick false other = k

row_keeps : (w : TcView) (n : ℕ) (v : Option Bytes) (x : Option OpenTxn) → IsTc w → reader w n ≡ x
    → IsTc (on_row w v x).1
row_keeps w n v None k at = k
row_keeps w n v (Some o) k at = pick (is_key (span_read o.reading))
  where
    told_if : Bool → Outcome
    told_if b = if b then (told.Row o.txn v, was_told w o) else (told.Nothing, w)

    pick : (b : Bool) → IsTc (told_if b).1
    pick true = keeps_told w o k (reader_is w n o k at).0
    pick false = k

rows_keeps : (w : TcView) (n : ℕ) (rows : List (Bytes × Bytes)) (x : Option OpenTxn) → IsTc w → reader w n ≡ x
    → IsTc (on_rows w rows x).1
rows_keeps w n rows None k at = k
rows_keeps w n rows (Some o) k at = pick (is_range (span_read o.reading))
  where
    told_if : Bool → Outcome
    told_if b = if b then (told.Rows o.txn rows, was_told w o) else (told.Nothing, w)

    pick : (b : Bool) → IsTc (told_if b).1
    pick true = keeps_told w o k (reader_is w n o k at).0
    pick false = k

-- what isn't refused is allowed as an answer is
not_spent : (stale : Bool) (l : Bool) → first_of ((stale, Stale) ∷ (l, NumbersSpent) ∷ []) ≡ None
    → first_of ((l, NumbersSpent) ∷ []) ≡ None
not_spent stale l h = let two = two_false stale l Stale NumbersSpent h in
    ap (λ b. first_of ((b, NumbersSpent) ∷ [])) two.1

outcome_keeps : (w : TcView) (reply : Reply) → IsTc w → reply_refusal w reply ≡ None → IsTc (on_reply w reply).1
outcome_keeps w (says.Connected s) k h = connected_keeps w w.phase k refl
outcome_keeps w (says.Answered s n a) k h =
    answered_keeps w n a k (not_spent (is_stale w s) (is_logged w n a (awaiting w n) && is_spent w.log) h)
outcome_keeps w (says.Row s n v) k h = row_keeps w n v (reader w n) k refl
outcome_keeps w (says.Rows s n rows) k h = rows_keeps w n rows (reader w n) k refl
outcome_keeps w (says.Checkpointed s l) k h =
    checkpointed_keeps w l k (not_spent (is_stale w s) (is_number w.checkpointing l && is_spent w.log) h)
outcome_keeps w (says.RedoEnded s) k h = redo_ended_keeps w w.phase k refl

pub reply_keeps : (old new : TcView) (reply : Reply) (x : Result Told Refusal) → IsTc old → ReplyGives old reply x new
    → IsTc new
reply_keeps old new reply (Ok what) k h = subst IsTc (sym h.1.left) (outcome_keeps old reply k h.0)
reply_keeps old new reply (Err r) k h = refused_keeps (reply_refusal old reply) _ _ old new r k h
