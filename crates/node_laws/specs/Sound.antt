-- Devices that don't fail, and what a node never answers that stands on them.
use Rattle.std.specs.Prelude.{◌≡◌, ◌≢◌, ℕ, Bool, true, false, List, Option, None, Result, Err}
use Rattle.std.specs.List.{AllByRecursion}
use Rattle.record_key.specs.declared.refusal.Refusal.{Refusal}
use Rattle.record_key.specs.declared.refusal.Refusal.TheVariants.{Device, BadBytes}
use Rattle.stable.specs.Usage.{Usage}
use Rattle.node_laws.specs.declared.event.Event.{Event}
use Rattle.node_laws.specs.declared.event.Event.TheVariants as event
use Rattle.node_laws.specs.declared.event.Out.{Out}
use Rattle.node_laws.specs.declared.event.Out.TheVariants as out
use Rattle.node_laws.specs.Node.{NodeView, fresh_node}
use Rattle.node_laws.specs.Stepping.{IsStep, Chain}
use Rattle.node_laws.specs.Rounds.{Settles}

-- no call of the device was set to fail, and none may fail otherwise
pub record IsSound (u : Usage) : Type 0 where
  pub unset : u.failing ≡ None
  pub firm : u.freely ≡ false

-- each device of the node is, also while its component doesn't run
pub record HasSoundDevices (w : NodeView) : Type 0 where
  pub log : IsSound w.tc.usage
  pub system_log : IsSound w.dc.system.log_usage
  pub pages : IsSound w.dc.system.page_usage

-- it doesn't say that a device failed
abbrev pub SaysNoFailure : Out → Type 0
SaysNoFailure o = o ≢ out.Refused Device

-- it doesn't say that bytes are no log's
abbrev pub SaysNoBadBytes : Out → Type 0
SaysNoBadBytes o = (n : ℕ) → o ≢ out.Refused (BadBytes n)

-- an event that sets no failure
abbrev pub sets_failure : Event → Bool
sets_failure (event.FailTc call) = true
sets_failure (event.FailDc device call) = true
sets_failure _ = false

abbrev pub SetsNone : Event → Type 0
SetsNone e = sets_failure e ≡ false

-- a new node's devices are sound; while no event sets a failure, none of a node with sound devices says that one failed,
-- and no `settle`; and they stay sound
pub record DeviceLaw : Type 0 where
  pub fresh : HasSoundDevices fresh_node
  pub step : (old new : NodeView) (e : Event) (o : Out) → HasSoundDevices old → SetsNone e → IsStep old e o new
      → HasSoundDevices new × SaysNoFailure o
  pub run : (old new : NodeView) (events : List Event) (outs : List Out) → HasSoundDevices old
      → AllByRecursion SetsNone events → Chain old events outs new
      → HasSoundDevices new × AllByRecursion SaysNoFailure outs
  pub settle : (old new : NodeView) (most : Option ℕ) (before after : List Out) (result : Result Bool Refusal)
      → HasSoundDevices old → Settles old most before after result new → HasSoundDevices new × (result ≢ Err Device)
  -- whatever devices do, no event is refused for bytes that are no log's
  pub readable : (old new : NodeView) (e : Event) (o : Out) → IsStep old e o new → SaysNoBadBytes o
