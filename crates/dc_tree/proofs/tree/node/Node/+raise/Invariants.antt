use Rattle.std.proofs.Common.{◌≡◌, vec_capacity}
use Rattle.dc_tree.specs.Nodes.{raised_node}
use Rattle.dc_tree.proofs.Raising.{each_below}
use Rattle.dc_tree.proofs.tree.node.Node.+raise.Given as goal

abbrev pub invariant-loop-i : goal.invariant-loop-i
invariant-loop-i l =
    (l.children.items ≡ each_below (raised_node l.low) l.i l.initial.children.items)
    × (vec_capacity l.children ≡ vec_capacity l.initial.children) × goal.unvisited-loop-i l
