-- An engine that ends, and the node that takes the place of its own.
use Rattle.std.specs.Prelude.{◌≡◌, ◌⊎◌, ℕ, ◌<◌, false, List, [], Result, Ok, Err, length}
use Rattle.std.specs.FinMap.{entries}
use Rattle.std.specs.List.{AllByRecursion}
use Rattle.record_key.specs.declared.refusal.Refusal.{Refusal}
use Rattle.record_key.specs.declared.refusal.Refusal.TheVariants.{Full}
use Rattle.history.specs.History.{plain}
use Rattle.history.specs.ListMachine.{Machine, is_live}
use Rattle.simulation.specs.Reading.{machine_read, txn_read}
use Rattle.tc_rewriting.specs.Written.{written}
use Rattle.dc_tree.specs.Leaves.{rows_of}
use Rattle.node_world.specs.dc_core.specs.DcView.{DcView, leaves}
use Rattle.node_world.specs.BringingUp.{BringsUp}
use Rattle.node_world.specs.Quiet.{IsQuiet}
use Rattle.node_store.specs.Renewal.{RefusesRenewal}
use Rattle.engine_guarded.specs.Found.{IsOwned}
use Rattle.engine_guarded.specs.Running.{PassesFrom}
use Rattle.engine_guarded.specs.engine_history.specs.Callers.{SessionView}
use Rattle.engine_guarded.specs.engine_history.specs.Commands.{commands}
use Rattle.engine_guarded.specs.engine_history.specs.Steps.{Start}
use Rattle.engine_guarded.specs.engine_history.specs.declared.step.Step.{Step}
use Rattle.engine_guarded.specs.engine_history.specs.node_laws.specs.Node.{NodeView, joined}
use Rattle.engine_guarded.specs.engine_history.specs.node_laws.specs.Promises.{Promises}
use Rattle.engine_guarded.specs.engine_history.specs.node_laws.specs.Simulation.{NodeStandsFor}
use Rattle.engine_guarded.specs.engine_history.specs.node_laws.specs.Standing.{StandsForSome}
use Rattle.engine_guarded.specs.engine_history.specs.node_laws.specs.declared.event.Event.{Event}
use Rattle.engine_guarded.specs.engine_history.specs.node_laws.specs.declared.event.Out.{Out}
use Rattle.engine_monitor.specs.Engines.{IsCovered}

-- the node that an engine left, by steps of which each session knows its own calls, and in which the engine alone has
-- commanded, just this
pub record IsLeft (start : Start) (sessions : ℕ) (given : List Event) (known : List SessionView) (node : NodeView)
    : Type 0 where
  pub steps : List Step
  pub passes : PassesFrom start steps node
  pub owned : AllByRecursion (IsOwned sessions) steps
  pub covered : AllByRecursion (IsCovered steps) known
  pub commanded : commands steps ≡ given

-- it comes to rest, or is stopped, whatever that tells
abbrev pub IsBroughtUp : NodeView → Result (Unit {0}) Refusal → NodeView → Type 0
IsBroughtUp old result new = (told : List Out) × BringsUp old [] told result new

-- a node on the log by which the records of a quiet one are written, and this data component: whatever list machine that
-- one stands for, and there is one, this one stands for another of the same plain map, in which nobody is open. That one
-- keeps its promises, so who was told to have committed is in the map
pub record IsRenewalOf (dc : DcView) (old made : NodeView) : Type 0 where
  pub quiet : IsQuiet old
  pub promised : Promises old
  pub stood : StandsForSome old
  pub log : made.tc.log ≡ written (entries (rows_of (leaves old.dc))) []
  pub joins : made ≡ joined made.tc dc
  pub stands : NodeStandsFor made (machine_read made.tc.log)
  pub table : (m : Machine) → NodeStandsFor old m → plain (machine_read made.tc.log).h ≡ plain m.h
  pub over : (t : ℕ) → is_live (txn_read made.tc.log t).status ≡ false

-- the renewal of a node once it has come to rest
pub record IsRenewed (dc : DcView) (old made : NodeView) : Type 0 where
  pub rested : NodeView
  pub rests : IsBroughtUp old (Ok tt) rested
  pub renews : IsRenewalOf dc rested made

-- why what has come to rest isn't renewed: its records aren't written, or there would be more sessions than an engine has
abbrev pub NotRenewed : ℕ → NodeView → Refusal → Type 0
NotRenewed count rested r = RefusesRenewal rested r ⊎ ((r ≡ Full) × (8 < count))

-- or something stops it from coming to rest
abbrev pub IsNotRenewed : ℕ → NodeView → Refusal → NodeView → Type 0
IsNotRenewed count old r rested =
    IsBroughtUp old (Err r) rested ⊎ (IsBroughtUp old (Ok tt) rested × NotRenewed count rested r)

-- the renewal of the node that an engine left
pub record IsRenewal (start : Start) (sessions : ℕ) (given : List Event) (known : List SessionView) (dc : DcView)
    (made : NodeView) : Type 0 where
  pub old : NodeView
  pub left : IsLeft start sessions given known old
  pub renewed : IsRenewed dc old made

-- the node that an engine left, which isn't renewed for this
pub record IsHandedBack (start : Start) (sessions : ℕ) (given : List Event) (known : List SessionView) (r : Refusal)
    (rested : NodeView) : Type 0 where
  pub old : NodeView
  pub left : IsLeft start sessions given known old
  pub refused : IsNotRenewed (length known) old r rested
