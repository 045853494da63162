-- What a session shows of its calls and of the marks.
use Rattle.std.specs.Prelude.{◌≡◌, ℕ, ◌≤◌, IsTrue, Some}
use Rattle.atomic_table.specs.Seated.{TableId}
use Rattle.boxcar.specs.Table.{Shelves}
use Rattle.history.specs.ListMachine.{Line}
use Rattle.engine_marks.specs.Seen.{Seen}
use Rattle.engine_guarded.specs.Callers.{CallerView}
use Rattle.engine_guarded.specs.Found.{Found}
use Rattle.engine_guarded.specs.Running.{PassesFrom}
use Rattle.engine_guarded.specs.Slots.{Slot, Shown, seen}
use Rattle.engine_guarded.specs.engine_history.specs.Callers.{SessionView}
use Rattle.engine_guarded.specs.engine_history.specs.Steps.{Start}
use Rattle.engine_guarded.specs.engine_history.specs.Sessions.{SessionCalls}
use Rattle.engine_guarded.specs.engine_history.specs.node_laws.specs.Node.{NodeView}
use Rattle.engine_guarded.specs.engine_history.specs.node_laws.specs.declared.event.Event.{Event}
use Rattle.engine_guarded.specs.engine_history.specs.node_laws.specs.declared.event.Out.{Out}
use Rattle.engine_guarded.specs.engine_answers.specs.Again.{IsAnswerTo}
use Rattle.engine_guarded.specs.engine_answers.specs.Answers.{AddsCall, EndsLive}
use Rattle.engine_guarded.specs.engine_answers.specs.declared.told.Told.{Told}
use Rattle.engine_guarded.specs.engine_answers.specs.declared.told.Told.TheVariants as told
use Rattle.engine_monitor.specs.Ending.{calls_in}

-- the log was stable up to this number, at an entry
pub record WasStable (start : Start) (entries : Shelves) (number : ℕ) : Type 0 where
  pub entry : Slot
  pub shown : Shown entries entry
  pub node : NodeView
  pub passes : PassesFrom start (seen entry) node
  pub up_to : number ≤ node.tc.stable

-- what lies under the lock, and what the seat that raises the marks has seen
pub record HeldView : Type 0 where
  pub found : Found
  pub seat : Seen

-- the seat raises these marks, and the log was stable as far as they say
pub record IsHeld (start : Start) (entries : Shelves) (marks : TableId) (seat : Seen) : Type 0 where
  pub marks_are : seat.marks ≡ marks
  pub raises : IsTrue seat.raises
  pub was : WasStable start entries seat.stable

-- a session's seat at these marks, which has seen the log stable up to this number, as it was
pub record IsKnown (start : Start) (entries : Shelves) (marks : TableId) (seat : Seen) (stable : ℕ) : Type 0 where
  pub marks_are : seat.marks ≡ marks
  pub has_seen : stable ≤ seat.stable
  pub was : WasStable start entries stable

abbrev pub session_of : CallerView → Seen → SessionView
session_of c seat = record { number = c.number; calls = calls_in c; seat = seat }

-- the log was stable up to the record of a commit that was told
abbrev pub IsStableAt : Start → Shelves → Told → Type 0
IsStableAt start entries t = (n : ℕ) → t ≡ told.Committed n → WasStable start entries n

-- a call of the transaction that is alive was told a line that answers it so
abbrev pub AnswersCall : (ℕ → Event) → Told → SessionCalls → SessionCalls → Type 0
AnswersCall of told old new =
    (t : ℕ) × (old.live ≡ Some t) × ((o : Out) × (line : Line) × IsAnswerTo (of t) o line told
    × AddsCall (of t) o (Some line) old new × EndsLive line new)
