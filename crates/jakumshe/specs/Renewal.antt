-- A node whose log is written anew.
use Rattle.std.specs.Prelude.{◌≡◌, ◌⊎◌, ℕ, false, List, [], Result, Ok, Err}
use Rattle.std.specs.FinMap.{entries}
use Rattle.stable.specs.Usage.{Usage}
use Rattle.record_key.specs.declared.refusal.Refusal.{Refusal}
use Rattle.history.specs.History.{plain}
use Rattle.history.specs.ListMachine.{Machine, is_live}
use Rattle.tc_rewriting.specs.Written.{written}
use Rattle.dc_tree.specs.Leaves.{rows_of}
use Rattle.simulation.specs.Reading.{machine_read, txn_read}
use Rattle.dc_core.specs.DcView.{fresh_dc, leaves}
use Rattle.node_laws.specs.declared.event.Out.{Out}
use Rattle.node_laws.specs.Node.{NodeView, joined}
use Rattle.node_laws.specs.Simulation.{NodeStandsFor}
use Rattle.node_world.specs.Quiet.{IsQuiet}
use Rattle.node_store.specs.Renewal.{RefusesRenewal}
use Rattle.jakumshe.specs.declared.fault.Fault.{Fault}
use Rattle.jakumshe.specs.declared.fault.Fault.TheVariants.{Refused}
use Rattle.jakumshe.specs.Calls.{ComesToRest, StopsSettling}
use Rattle.jakumshe.specs.Logs.{IsBroughtUp}
use Rattle.jakumshe.specs.Statuses.{renewal_fault}

-- a node on the log by which the records of a quiet one are written, and a data component of no records: whatever list
-- machine that one stands for, this one stands for another of the same plain map, in which nobody is open
pub record IsRenewalOf (old made : NodeView) : Type 0 where
  pub quiet : IsQuiet old
  pub log : made.tc.log ≡ written (entries (rows_of (leaves old.dc))) []
  pub tree : Usage
  pub pages : Usage
  pub joins : made ≡ joined made.tc (fresh_dc tree pages)
  pub stands : NodeStandsFor made (machine_read made.tc.log)
  pub table : (m : Machine) → NodeStandsFor old m → plain (machine_read made.tc.log).h ≡ plain m.h
  pub over : (t : ℕ) → is_live (txn_read made.tc.log t).status ≡ false

-- the old node comes to rest, and the new one is its renewal, which has come to rest since
pub record IsRenewed (old rested new : NodeView) : Type 0 where
  pub told : List Out
  pub rests : ComesToRest old told rested
  pub made : NodeView
  pub renews : IsRenewalOf rested made
  pub brought : IsBroughtUp made (Ok tt) new

-- why the node has no renewal: it isn't one at rest, which is told Active, or its records aren't written
pub record HasNoRenewal (old rested : NodeView) (fault : Fault) : Type 0 where
  pub told : List Out
  pub rests : ComesToRest old told rested
  pub why : Refusal
  pub refuses : RefusesRenewal rested why
  pub is : fault ≡ renewal_fault why

-- it has one, which is stopped before it comes to rest
pub record IsStoppedAnew (old rested : NodeView) (fault : Fault) : Type 0 where
  pub told : List Out
  pub rests : ComesToRest old told rested
  pub made : NodeView
  pub renews : IsRenewalOf rested made
  pub why : Refusal
  pub new : NodeView
  pub stops : IsBroughtUp made (Err why) new
  pub is : fault ≡ Refused why

-- why a node isn't renewed: something stops it from settling, or one of these
abbrev pub NotRenewed : NodeView → NodeView → Fault → Type 0
NotRenewed old new fault =
    ((r : Refusal) × (fault ≡ Refused r) × StopsSettling old r new)
    ⊎ HasNoRenewal old new fault
    ⊎ IsStoppedAnew old new fault
