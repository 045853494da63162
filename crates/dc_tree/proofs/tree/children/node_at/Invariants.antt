use Rattle.std.proofs.Common.{◌≡◌, ◌+◌, ◌-◌, ◌<◌, length, take}
use Rattle.dc_tree.specs.Nodes.{under}
use Rattle.dc_tree.proofs.tree.children.node_at.Given as goal

abbrev pub invariant-loop-rest : goal.invariant-loop-rest
invariant-loop-rest l = (l.i < length l.nodes) × (l.place ≡ length (under (take l.i l.nodes)) + l.rest)

abbrev pub decreases-loop-rest : goal.decreases-loop-rest
decreases-loop-rest l = length l.nodes - l.i
