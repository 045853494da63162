-- Why a step is refused that may be made again.
use Rattle.std.specs.Prelude.{Option, Some, None}
use Rattle.record_key.specs.declared.refusal.Refusal.{Refusal}
use Rattle.record_key.specs.declared.refusal.Refusal.TheVariants.{NoMemory, Device}
use Rattle.node_sides.specs.node_laws.specs.declared.event.Out.{Out}
use Rattle.node_sides.specs.node_laws.specs.declared.event.Out.TheVariants as out
use Rattle.engine_history.specs.declared.failure.Failure.{Failure}
use Rattle.engine_history.specs.declared.failure.Failure.TheVariants as failure

abbrev pub refusal_of : Failure → Refusal
refusal_of failure.NoMemory = NoMemory
refusal_of failure.Device = Device

abbrev pub failure_in : Refusal → Option Failure
failure_in NoMemory = Some failure.NoMemory
failure_in Device = Some failure.Device
failure_in _ = None

-- what a step failed by that came to this
abbrev pub failure_of : Out → Option Failure
failure_of (out.Refused r) = failure_in r
failure_of _ = None
