-- A node that is opened on a log, and the bytes of its log.
use Rattle.std.specs.Prelude.{◌≡◌, ◌≢◌, ◌⊎◌, ℕ, List, [], ◌++◌, Result, Ok, Err, length, take, drop}
use Rattle.stable.specs.Usage.{Usage, unused, called_often}
use Rattle.framed_log.specs.Beginning.{beginning}
use Rattle.tc_log.specs.Spelled.{spelled}
use Rattle.simulation.specs.Reading.{machine_read}
use Rattle.dc_core.specs.DcView.{fresh_dc}
use Rattle.tc_core.specs.Opening.{IsOpened}
use Rattle.node_laws.specs.declared.event.Out.{Out}
use Rattle.node_laws.specs.Node.{NodeView, joined}
use Rattle.node_laws.specs.Simulation.{NodeStandsFor}
use Rattle.node_store.specs.declared.unopened.Cause.{Cause}
use Rattle.node_store.specs.declared.unopened.Cause.TheVariants as no
use Rattle.node_store.specs.Opening.{IsRefusedFor}
use Rattle.record_key.specs.declared.refusal.Refusal.{Refusal}
use Rattle.record_key.specs.declared.refusal.Refusal.TheVariants.{Device}
use Rattle.jakumshe.specs.declared.fault.Fault.{Fault}
use Rattle.jakumshe.specs.declared.fault.Fault.TheVariants.{Refused}
use Rattle.node_world.specs.BringingUp.{BringsUp}
use Rattle.jakumshe.specs.Statuses.{fault_of}

-- the bytes of the log that are stable
abbrev pub stable_bytes : NodeView → List ℕ
stable_bytes w = spelled (beginning w.tc.log w.tc.stable)

-- the device of a log in memory, once the bytes were written to it: in two calls, and none of its calls fails
abbrev pub written_once : Usage
written_once = called_often 2 unused

-- a node on the log that these bytes spell, and a data component of no records, on devices of which no call fails; it
-- stands for the list machine that the log tells of
pub record IsMadeOn (bytes : List ℕ) (w : NodeView) : Type 0 where
  pub opened : IsOpened bytes written_once w.tc
  pub joins : w ≡ joined w.tc (fresh_dc unused unused)
  pub stands : NodeStandsFor w (machine_read w.tc.log)

-- it comes to rest, or is stopped, whatever that tells
abbrev pub IsBroughtUp : NodeView → Result (Unit {0}) Refusal → NodeView → Type 0
IsBroughtUp old result new = (told : List Out) × BringsUp old [] told result new

-- one that has come to rest since, and how many bytes its log had before
pub record IsOpenedOn (bytes : List ℕ) (kept : ℕ) (new : NodeView) : Type 0 where
  pub made : NodeView
  pub is_made : IsMadeOn bytes made
  pub counted : kept ≡ length (stable_bytes made)
  pub rests : IsBroughtUp made (Ok tt) new

-- one that couldn't
pub record IsStoppedOn (bytes : List ℕ) (r : Refusal) : Type 0 where
  pub made : NodeView
  pub is_made : IsMadeOn bytes made
  pub new : NodeView
  pub stops : IsBroughtUp made (Err r) new

-- the bytes aren't opened for this: no call of a device failed
abbrev pub IsUnfitFor : List ℕ → Cause → Type 0
IsUnfitFor bytes why = IsRefusedFor bytes why × (why ≢ no.Refused Device)

-- why none is opened on these bytes
abbrev pub NotOpened : List ℕ → Fault → Type 0
NotOpened bytes fault =
    ((why : Cause) × IsUnfitFor bytes why × (fault ≡ fault_of why))
    ⊎ ((r : Refusal) × IsStoppedOn bytes r × (fault ≡ Refused r))

-- there stand those from this one on, as many as there is room for; and they are so many in all
pub record Copies (all : List ℕ) (from : ℕ) (room : List ℕ) (count : ℕ) : Type 0 where
  pub counted : count ≡ length all
  pub rest : List ℕ
  pub copied : room ≡ take (length room) (drop from all) ++ rest
