-- What is found under the lock of each component.
use Rattle.std.specs.Prelude.{◌≡◌, ℕ, ◌≤◌, Bool, true, false, IsTrue, List, None}
use Rattle.atomic_table.specs.Seated.{TableId}
use Rattle.engine_marks.specs.Seen.{Seen}
use Rattle.node_sides.specs.node_laws.specs.declared.event.Event.{Event}
use Rattle.node_sides.specs.node_laws.specs.declared.event.Event.TheVariants as event
use Rattle.node_sides.specs.node_laws.specs.declared.event.Out.TheVariants as out
use Rattle.node_sides.specs.node_laws.specs.Component.{DcSide}
use Rattle.node_sides.specs.node_laws.specs.Halves.{DcLeads}
use Rattle.engine_history.specs.declared.step.Step.{Step}
use Rattle.engine_history.specs.Marking.{announced}
use Rattle.engine_history.specs.Steps.{Start, TcState, DcState, GivesTc, GivesDc}
use Rattle.engine_history.specs.Views.{View}

-- the steps up to the last entry that it has seen, the component, and what its seat has seen of the marks
pub record TcFound : Type 0 where
  pub steps : List Step
  pub state : TcState
  pub seat : Seen

-- the same of the data component, which has no seat
pub record DcFound : Type 0 where
  pub steps : List Step
  pub state : DcState

-- the seat raises the marks: stable up to what is stable of the log, and low to the greatest number that these steps
-- have announced
pub record SeatKept (marks : TableId) (steps : List Step) (stable : ℕ) (seat : Seen) : Type 0 where
  pub marks_are : seat.marks ≡ marks
  pub raises : IsTrue seat.raises
  pub stable_so : seat.stable ≤ stable
  pub low : seat.low ≡ announced steps

-- the latched transaction component is what these steps give
pub record LatchedTcKept (start : Start) (names : ℕ → ℕ) (marks : TableId) (seen : View) (state : TcState) (seat : Seen)
    : Type 0 where
  pub name : seen.name ≡ names 0
  pub gives : GivesTc start seen.steps state
  pub seated : SeatKept marks seen.steps state.side.tc.stable seat

-- the same of the latched data component
pub record LatchedDcKept (start : Start) (names : ℕ → ℕ) (seen : View) (state : DcState) : Type 0 where
  pub name : seen.name ≡ names 1
  pub gives : GivesDc start seen.steps state

-- it was asked to tend its leaves, and had nothing to do
pub record TendsNothing (old new : DcSide) : Type 0 where
  pub nothing : DcLeads old None event.Tend None out.Nothing None new
  pub same : new ≡ old

-- the event delivers a message
abbrev pub delivers : Event → Bool
delivers (event.Request i) = true
delivers (event.Reply i) = true
delivers _ = false
