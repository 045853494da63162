use Rattle.std.proofs.Common.{◌≡◌, ◌+◌, ◌≤◌, ◌++◌, drop, length, take, vec_capacity}
use Rattle.dc_tree.proofs.tree.blocks.move_rest.Given as goal

abbrev pub invariant-loop-children : goal.invariant-loop-children
invariant-loop-children l =
    (l.block.items ++ drop l.i l.children.items ≡ drop l.i l.initial.children.items)
    × (take l.i l.children.items ≡ take l.i l.initial.children.items)
    × (l.i ≤ length l.children.items)
    × (length l.block.items + length l.children.items ≤ length l.initial.children.items)
    × (vec_capacity l.children ≡ vec_capacity l.initial.children)
    × (vec_capacity l.block ≡ vec_capacity l.initial.block)

abbrev pub decreases-loop-children : goal.decreases-loop-children
decreases-loop-children l = length l.children.items
