-- What recovery sends and logs.
use Rattle.std.specs.Prelude.{◌≡◌, ℕ, ◌+◌, ◌&&◌, Bool, true, false, not, [], ◌∷◌, Option, Some, None, Result, Ok, Err, is_some, length}
use Rattle.record_key.specs.declared.op.Op.{Op}
use Rattle.record_key.specs.declared.refusal.Refusal.{Refusal}
use Rattle.record_key.specs.declared.refusal.Refusal.TheVariants.{NotConnected, NumbersSpent}
use Rattle.record_key.specs.FirstCause.{first_of}
use Rattle.codec.specs.declared.request.Request.{Request}
use Rattle.codec.specs.declared.request.Request.TheVariants as asks
use Rattle.tc_core.specs.declared.phase.Phase.{Phase}
use Rattle.tc_core.specs.declared.phase.Phase.TheVariants as phase
use Rattle.tc_core.specs.declared.told.RecoverStep.{RecoverStep}
use Rattle.tc_core.specs.declared.told.RecoverStep.TheVariants as step
use Rattle.history.specs.Log.{Requests}
use Rattle.tc_log.specs.LogView.{is_spent, last_not_session}
use Rattle.tc_restart.specs.declared.loser.Loser.{Loser}
use Rattle.tc_restart.specs.Losers.{IsLeast, MayEnd, LosesNext}
use Rattle.tc_core.specs.TcView.{TcView, is_unconnected}
use Rattle.tc_core.specs.Refusing.{Refuses}
use Rattle.tc_core.specs.Changes.{lost_compensated, lost_ended}
use Rattle.tc_core.specs.Undo.{FindsRequest}

-- undo logs a record where no compensation is awaited
abbrev pub undo_logs_at : Phase → Bool
undo_logs_at (phase.Undoing None) = true
undo_logs_at _ = false

abbrev pub recover_refusal : TcView → Option Refusal
recover_refusal w =
    first_of ((is_unconnected w.phase, NotConnected)
    ∷ (undo_logs_at w.phase && is_spent w.log, NumbersSpent) ∷ [])

-- redo stands at this number, and its end was sent or not
abbrev pub redoing : TcView → ℕ → Bool → TcView
redoing w n ending = record w { phase = phase.Redoing n ending }

-- the next number of redo with its operation; after the last one the end of redo
abbrev pub redo_request : TcView → Option (ℕ × Op) → Request
redo_request w None = asks.RedoEnd w.session
redo_request w (Some x) = asks.Perform w.session x.0 w.stable x.1

abbrev pub redo_place : ℕ → Option (ℕ × Op) → ℕ
redo_place s None = s
redo_place s (Some x) = x.0

-- redo asks for the next record that asks for something, or for the end of redo
pub record Redoes (old : TcView) (next : ℕ) (request : Request) (new : TcView) : Type 0 where
  pub found : Option (ℕ × Op)
  pub finds : FindsRequest old.log next old.session found
  pub request_is : request ≡ redo_request old found
  pub left : new ≡ redoing old (redo_place old.session found) (not (is_some found))

-- the compensation that is awaited
pub record ResendsUndo (old : TcView) (number : ℕ) (request : Request) (new : TcView) : Type 0 where
  pub op : Op
  pub requests : Requests old.log number op
  pub request_is : request ≡ asks.Perform old.session number old.stable op
  pub unchanged : new ≡ old

abbrev pub SendsAt : TcView → Phase → Request → TcView → Type 0
SendsAt old phase.Connecting request new = (request ≡ asks.Connect old.session (last_not_session old.log)) × (new ≡ old)
SendsAt old (phase.Redoing next ending) request new = Redoes old next request new
SendsAt old (phase.Undoing (Some n)) request new = ResendsUndo old n request new
SendsAt old _ request new = ⊥

-- of the losers that have nothing left to undo the least one has ended
pub record LosesLeast (old : TcView) (t : ℕ) (new : TcView) : Type 0 where
  pub undoing : old.phase ≡ phase.Undoing None
  pub least : IsLeast (MayEnd old.log old.losers.below) t
  pub same : new.losers.below ≡ old.losers.below
  pub left : new ≡ lost_ended old t new.losers

-- none has: the latest operation of all losers that no compensation names is compensated
pub record CompensatesLatest (old : TcView) (number : ℕ) (new : TcView) : Type 0 where
  pub undoing : old.phase ≡ phase.Undoing None
  pub none_ends : (t : ℕ) → MayEnd old.log old.losers.below t → ⊥
  pub loser : Loser
  pub next : LosesNext old.log old.losers.below loser
  pub number_is : number ≡ length old.log + 1
  pub same : new.losers.below ≡ old.losers.below
  pub left : new ≡ lost_compensated old loser new.losers

-- one step of recovery: a request that is due or awaits its reply, a record of the losers' undo, or nothing where the
-- component runs
abbrev pub Recovers : TcView → RecoverStep → TcView → Type 0
Recovers old step.Nothing new = (old.phase ≡ phase.Running) × (new ≡ old)
Recovers old (step.Sends request) new = SendsAt old old.phase request new
Recovers old (step.Compensated n) new = CompensatesLatest old n new
Recovers old (step.Lost t) new = LosesLeast old t new

abbrev pub RecoverGives : TcView → Result RecoverStep Refusal → TcView → Type 0
RecoverGives old (Ok step) new = (recover_refusal old ≡ None) × Recovers old step new
RecoverGives old (Err r) new = Refuses (recover_refusal old) (undo_logs_at old.phase) (undo_logs_at old.phase) old r new

-- what it sends is the operation of this number
pub record SendsOp (old : TcView) (n : ℕ) (new : TcView) : Type 0 where
  pub op : Op
  pub requests : Requests old.log n op
  pub gives : RecoverGives old (Ok (step.Sends (asks.Perform old.session n old.stable op))) new
