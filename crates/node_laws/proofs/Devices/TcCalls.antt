-- What the calls of the transaction component leave where the log's device doesn't fail.
use Rattle.std.proofs.Common.{◌≡◌, ℕ, Bool, true, false, List, Option, Some, None, sym, ap, ◌∙◌, subst, inl, inr}
use Rattle.std.specs.Prelude.{Err, if◌then◌else◌}
use Rattle.record_key.specs.declared.op.Answer.{Answer}
use Rattle.record_key.specs.Table.{Bytes}
use Rattle.record_key.specs.declared.refusal.Refusal.{Refusal}
use Rattle.record_key.specs.declared.refusal.Refusal.TheVariants.{Device}
use Rattle.stable.specs.Usage.{Usage, called}
use Rattle.tc_log.specs.Opening.{UsedToOpen}
use Rattle.tc_log.specs.LogView.{spent_refusal}
use Rattle.history.specs.Spans.{Span as Keys}
use Rattle.codec.specs.declared.request.Request.{Request}
use Rattle.codec.specs.declared.reply.Reply.{Reply}
use Rattle.codec.specs.declared.reply.Reply.TheVariants as says
use Rattle.tc_core.specs.declared.open_txn.OpenTxn.{OpenTxn}
use Rattle.tc_core.specs.declared.open_txn.Rollback.{Rollback}
use Rattle.tc_core.specs.declared.phase.Phase.{Phase}
use Rattle.tc_core.specs.declared.phase.Phase.TheVariants as phase
use Rattle.tc_core.specs.declared.told.UndoStep.{UndoStep}
use Rattle.tc_core.specs.declared.told.UndoStep.TheVariants as undo
use Rattle.tc_core.specs.TcView.{TcView}
use Rattle.tc_core.specs.Refusing.{Refuses}
use Rattle.tc_core.specs.Causes.{RefusesTaking}
use Rattle.tc_core.specs.Changes.{logged_session}
use Rattle.tc_core.specs.Calls.{ReconnectGives, Undoes}
use Rattle.tc_core.specs.Recovery.{SendsAt}
use Rattle.tc_core.specs.Replies.{Outcome, on_reply, on_awaited, on_lost, on_connected, on_redo_ended, on_row, on_rows, takes, lacks, awaiting, is_number, is_key, is_range, span_read, reader}
use Rattle.tc_core.specs.Opened.{UsedByOpening}
use Rattle.node_laws.specs.Component.{LacksDevice}
use Rattle.node_laws.specs.Sound.{IsSound}
use Rattle.node_laws.proofs.Devices.Causes.{sound_called, sound_often, not_due, is_foreign, IsOther, spent_other}

-- a call is refused for something else, and the device is sound still
pub record Ends (r : Refusal) (new : TcView) : Type 0 where
  pub other : is_foreign r ≡ false
  pub sound : IsSound new.usage

-- a component that became this one
pub sound_as : (new tc : TcView) → new ≡ tc → IsSound tc.usage → IsSound new.usage
sound_as new tc same s = subst (λ (x : TcView). IsSound x.usage) (sym same) s

pub ends_refused : (cause : Option Refusal) (memory device : Bool) (old : TcView) (r : Refusal) (new : TcView)
    → IsSound old.usage → IsOther cause → Refuses cause memory device old r new → Ends r new
ends_refused (Some c) memory device old r new s o h =
    record { other = ap is_foreign h.0 ∙ o; sound = sound_as new old h.1 s }
ends_refused None memory device old r new s o (inl h) =
    record { other = ap is_foreign h.1; sound = sound_as new old h.2 s }
ends_refused None memory device old r new s o (inr h) = absurd (not_due old.usage s h.3)

pub ends_taking : (cause spent : Option Refusal) (device : Bool) (old : TcView) (t : ℕ) (k : Keys) (r : Refusal)
    (new : TcView)
    → IsSound old.usage → IsOther cause → IsOther spent → RefusesTaking cause spent device old t k r new → Ends r new
ends_taking (Some c) spent device old t k r new s o p h =
    record { other = ap is_foreign h.0 ∙ o; sound = sound_as new old h.1 s }
ends_taking None spent device old t k r new s o p (inl h) =
    record { other = ap is_foreign h.1; sound = sound_as new old h.3 s }
ends_taking None spent device old t k r new s o p (inr h) = ends_refused spent true device old r new s p h.1

pub ends_reconnect : (old : TcView) (r : Refusal) (new : TcView) → IsSound old.usage → ReconnectGives old (Err r) new
    → Ends r new
ends_reconnect old r new s (inl h) = ends_refused (spent_refusal old.log) true true old r new s (spent_other old) h
ends_reconnect old r new s (inr h) =
    absurd (not_due (logged_session old).usage (sound_called old.usage s) h.3)

-- a step of a rollback logs one record or none
pub sound_undone : (w : TcView) (o : OpenTxn) (r : Option Rollback) (step : UndoStep) (new : TcView)
    → IsSound w.usage → Undoes w o r step new → IsSound new.usage
sound_undone w o None undo.Idle new s h = sound_as new w h s
sound_undone w o None (undo.Compensated n) new s h = absurd h
sound_undone w o None (undo.RolledBack t) new s h = absurd h
sound_undone w o None (undo.Back t p) new s h = absurd h
sound_undone w o (Some r) undo.Idle new s h = absurd h
sound_undone w o (Some r) (undo.Compensated n) new s h = sound_as new _ h.2 (sound_called w.usage s)
sound_undone w o (Some r) (undo.RolledBack t) new s h = sound_as new _ h.3 (sound_called w.usage s)
sound_undone w o (Some r) (undo.Back t p) new s h = sound_as new _ h.3 s

-- what recovery sends needs no device
pub sound_sent : (w : TcView) (p : Phase) (q : Request) (new : TcView) → IsSound w.usage → SendsAt w p q new
    → IsSound new.usage
sound_sent w phase.Unconnected q new s h = absurd h
sound_sent w phase.Connecting q new s h = sound_as new w h.1 s
sound_sent w (phase.Redoing next ending) q new s h = sound_as new _ h.left s
sound_sent w (phase.Undoing None) q new s h = absurd h
sound_sent w (phase.Undoing (Some n)) q new s h = sound_as new w h.unchanged s
sound_sent w phase.Running q new s h = absurd h

-- ---- replies: an answer or a checkpoint is logged, or nothing is

abbrev LeavesSound : Outcome → Type 0
LeavesSound x = IsSound x.1.usage

either : (b : Bool) (x y : Outcome) → LeavesSound x → LeavesSound y → LeavesSound (if b then x else y)
either true x y s u = s
either false x y s u = u

sound_lost : (w : TcView) (n : ℕ) (a : Option Answer) → IsSound w.usage → LeavesSound (on_lost w n a)
sound_lost w n None s = s
sound_lost w n (Some a) s = sound_called w.usage s

sound_awaited : (w : TcView) (n : ℕ) (a : Option Answer) (o : Option OpenTxn) → IsSound w.usage
    → LeavesSound (on_awaited w n a o)
sound_awaited w n a None s = either (lacks w n) (on_lost w n a) _ (sound_lost w n a s) s
sound_awaited w n None (Some o) s = s
sound_awaited w n (Some a) (Some o) s = sound_called w.usage s

sound_connected : (w : TcView) (p : Phase) → IsSound w.usage → LeavesSound (on_connected w p)
sound_connected w phase.Connecting s = s
sound_connected w _ s = s

sound_redo_ended : (w : TcView) (p : Phase) → IsSound w.usage → LeavesSound (on_redo_ended w p)
sound_redo_ended w (phase.Redoing next true) s = s
sound_redo_ended w (phase.Redoing next false) s = s
sound_redo_ended w phase.Unconnected s = s
sound_redo_ended w phase.Connecting s = s
sound_redo_ended w (phase.Undoing waiting) s = s
sound_redo_ended w phase.Running s = s

sound_row : (w : TcView) (v : Option Bytes) (o : Option OpenTxn) → IsSound w.usage → LeavesSound (on_row w v o)
sound_row w v None s = s
sound_row w v (Some o) s = either (is_key (span_read o.reading)) _ _ s s

sound_rows : (w : TcView) (rows : List (Bytes × Bytes)) (o : Option OpenTxn) → IsSound w.usage
    → LeavesSound (on_rows w rows o)
sound_rows w rows None s = s
sound_rows w rows (Some o) s = either (is_range (span_read o.reading)) _ _ s s

pub sound_replied : (w : TcView) (reply : Reply) → IsSound w.usage → LeavesSound (on_reply w reply)
sound_replied w (says.Connected session) s = sound_connected w w.phase s
sound_replied w (says.Answered session n a) s =
    either (takes w.session w.phase n) _ _ (sound_awaited w n a (awaiting w n) s) s
sound_replied w (says.RedoEnded session) s = sound_redo_ended w w.phase s
sound_replied w (says.Row session r v) s = sound_row w v (reader w r) s
sound_replied w (says.Rows session r rows) s = sound_rows w rows (reader w r) s
sound_replied w (says.Checkpointed session l) s =
    either (is_number w.checkpointing l) _ _ (sound_called w.usage s) s

-- ---- restarts

pub sound_opened : (old new : Usage) → IsSound old → UsedByOpening old new → IsSound new
sound_opened old new s (inl h) = subst IsSound (sym h) (sound_often 1 old s)
sound_opened old new s (inr h) = subst IsSound (sym h) (sound_often 2 old s)

-- a restart that is refused
pub record StopsSoundly (r : Refusal) (new : Usage) : Type 0 where
  pub other : is_foreign r ≡ false
  pub sound : IsSound new

pub ends_opening : (old new : Usage) (r : Refusal) → IsSound old → LacksDevice r → UsedToOpen old r new
    → StopsSoundly r new
ends_opening old new r s (inl memory) h =
    record {
      other = ap is_foreign memory;
      sound = subst IsSound (sym (subst (λ (x : Refusal). UsedToOpen old x new) memory h)) (sound_called old s);
    }
ends_opening old new r s (inr device) h = by (subst (λ (x : Refusal). UsedToOpen old x new) device h)
  where
    by : UsedToOpen old Device new → StopsSoundly r new
    by (inl now) = absurd (not_due old s now.0)
    by (inr next) = absurd (not_due (called old) (sound_called old s) next.0)
