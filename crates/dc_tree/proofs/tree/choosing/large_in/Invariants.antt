use Rattle.std.proofs.Common.{◌≡◌, ◌-◌, ◌<◌, length, take}
use Rattle.dc_tree.specs.Nodes.{under}
use Rattle.dc_tree.proofs.FirstBelow.{LargeFrom}
use Rattle.dc_tree.proofs.tree.choosing.large_in.Given as goal

-- the first large leaf lies below the nodes from the i-th on
abbrev pub invariant-loop-before : goal.invariant-loop-before
invariant-loop-before l =
    (l.i < length l.nodes) × (l.before ≡ length (under (take l.i l.nodes))) × LargeFrom l.known l.nodes l.i l.before

abbrev pub decreases-loop-before : goal.decreases-loop-before
decreases-loop-before l = length l.nodes - l.i
