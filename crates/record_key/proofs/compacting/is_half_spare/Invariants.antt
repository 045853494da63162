use Rattle.std.proofs.Common.{◌≡◌, ◌+◌, ◌/◌, length, take}
use Rattle.record_key.specs.Compacting.{used_in}
use Rattle.record_key.proofs.compacting.is_half_spare.Given as goal

-- what the entries so far take is counted
abbrev pub invariant-loop-slot : goal.invariant-loop-slot
invariant-loop-slot l = l.left + used_in l.bytes (take l.slot-index l.slots) ≡ length l.bytes / 2
