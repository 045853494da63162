-- What the entries are witness to: what a crash left, and how a component was up to an entry.
use Rattle.std.specs.Prelude.{◌≡◌, ℕ, ◌≤◌, true, List, [], ◌∷◌, ◌++◌, Option}
use Rattle.boxcar.specs.Table.{Shelves}
use Rattle.node_sides.specs.node_laws.specs.declared.event.Event.{Event}
use Rattle.node_sides.specs.node_laws.specs.declared.event.Event.TheVariants as event
use Rattle.node_sides.specs.node_laws.specs.Component.{TcSide, LeavesBytes}
use Rattle.node_sides.specs.tc_core.specs.declared.phase.Phase.TheVariants as phase
use Rattle.engine_history.specs.Commands.{commands}
use Rattle.engine_history.specs.declared.step.Step.{Step}
use Rattle.engine_history.specs.Slots.{Slot, seen, Shown, IsShown}
use Rattle.engine_history.specs.Steps.{Start, TcState, DcState, GivesTc, GivesDc}

-- the next command was a crash of the transaction component, by this entry, and so many bytes are left of what wasn't
-- stable of its log
pub record LeftBytes (start : Start) (entries : Shelves) (kept : ℕ) (old : List Event) (entry : Slot) (new : List Event)
    : Type 0 where
  pub frames : ℕ
  pub bytes : ℕ
  pub given : new ≡ old ++ event.CrashTc frames bytes ∷ []
  pub shown : Shown entries entry
  pub event_is : entry.value.step.value.event ≡ event.CrashTc frames bytes
  pub first : commands entry.value.before.steps ≡ old
  pub state : TcState
  pub gives : GivesTc start entry.value.before.steps state
  pub leaves : state.side.up ≡ true → LeavesBytes state.side.tc kept frames bytes

-- the steps are those up to an entry, or none
pub record AreWitnessed (entries : Shelves) (steps : List Step) : Type 0 where
  pub last : Option Slot
  pub shown : IsShown entries last
  pub steps_are : seen last ≡ steps

-- the log was stable up to this number, at some entry or at the start
pub record WasStable (start : Start) (entries : Shelves) (number : ℕ) : Type 0 where
  pub steps : List Step
  pub shown : AreWitnessed entries steps
  pub state : TcState
  pub gives : GivesTc start steps state
  pub up_to : number ≤ state.side.tc.stable

-- the transaction component runs in this session: nothing is left to redo, and nobody to undo
pub record RunsIn (session : ℕ) (side : TcSide) : Type 0 where
  pub up : side.up ≡ true
  pub running : side.tc.phase ≡ phase.Running
  pub session_is : side.tc.session ≡ session

-- so it did, up to some entry or at the start, after just these commands
pub record TcRan (start : Start) (entries : Shelves) (given : List Event) (session : ℕ) : Type 0 where
  pub steps : List Step
  pub shown : AreWitnessed entries steps
  pub after : commands steps ≡ given
  pub state : TcState
  pub gives : GivesTc start steps state
  pub runs : RunsIn session state.side

-- the data component ran in this session, up to some entry or at the start, after just these commands
pub record DcRan (start : Start) (entries : Shelves) (given : List Event) (session : ℕ) : Type 0 where
  pub steps : List Step
  pub shown : AreWitnessed entries steps
  pub after : commands steps ≡ given
  pub state : DcState
  pub gives : GivesDc start steps state
  pub up : state.side.up ≡ true
  pub session_is : state.side.dc.session ≡ session

-- both components ran in one session, each up to an entry of its own, after just these commands
pub record WereUp (start : Start) (entries : Shelves) (given : List Event) : Type 0 where
  pub session : ℕ
  pub dc : DcRan start entries given session
  pub tc : TcRan start entries given session
