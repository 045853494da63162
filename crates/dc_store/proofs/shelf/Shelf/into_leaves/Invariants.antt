use Rattle.std.proofs.Common.{◌≡◌, ◌++◌}
use Rattle.std.specs.Vec.Iter.{into_iter_items}
use Rattle.dc_store.specs.Shelf.{boxes_on}
use Rattle.dc_store.proofs.shelf.Shelf.into_leaves.Given as goal

-- the leaves so far, and those in the places that are left
abbrev pub invariant-loop-slot : goal.invariant-loop-slot
invariant-loop-slot l = l.leaves.items ++ boxes_on (into_iter_items l.slot-iterator) ≡ boxes_on l.fn.self.slots.items
