use Rattle.std.proofs.Common.{◌≡◌, ◌≤◌, length, take}
use Rattle.std.specs.Prelude.{map}
use Rattle.std.specs.List.{AllByRecursion}
use Rattle.record_key.specs.Compacting.{used_in}
use Rattle.record_key.specs.Packed.{entry_in, IsFilled}
use Rattle.record_key.proofs.compacting.copied.Given as goal

abbrev pub invariant-loop-slot : goal.invariant-loop-slot
invariant-loop-slot l = record {
  filled : AllByRecursion (IsFilled l.copied_bytes.items) l.copied_slots.items;
  same : map (entry_in l.copied_bytes.items) l.copied_slots.items ≡ map (entry_in l.bytes) (take l.slot-index l.slots);
  tight : length l.copied_bytes.items ≤ used_in l.bytes (take l.slot-index l.slots);
}
