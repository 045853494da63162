use Rattle.std.proofs.Common.{◌≡◌, ◌++◌}
use Rattle.dc_tree.specs.Lists.{leaves_in}
use Rattle.dc_tree.specs.Nodes.{AreSpare, IsWhole}
use Rattle.dc_tree.proofs.tree.building.build.Given as goal

abbrev pub invariant-loop-leaf : goal.invariant-loop-leaf
invariant-loop-leaf l = (l.root.leaves ++ leaves_in l.leaf-iterator.rest.items ≡ leaves_in l.fn.boxes.items)
    × IsWhole l.root × AreSpare l.spare.items
