use Rattle.std.proofs.Common.{◌≡◌, length, take}
use Rattle.dc_tree.specs.Nodes.{under}
use Rattle.dc_tree.proofs.tree.children.count_in.Given as goal

abbrev pub invariant-loop-node : goal.invariant-loop-node
invariant-loop-node l = l.count ≡ length (under (take l.node-index l.nodes))
