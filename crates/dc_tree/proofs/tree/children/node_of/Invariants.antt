use Rattle.std.proofs.Common.{◌≡◌, ◌-◌, ◌<◌, ◌≤◌, length, get_or, true, false}
use Rattle.record_key.specs.Order.{starts_at_most}
use Rattle.dc_tree.specs.Nodes.{low_of, nothing}
use Rattle.dc_tree.proofs.tree.children.node_of.Given as goal

abbrev pub invariant-loop-end : goal.invariant-loop-end
invariant-loop-end l = record {
  some : l.i < l.end;
  within : l.end ≤ length l.nodes;
  starts : 0 < l.i → starts_at_most (low_of (get_or l.nodes l.i nothing).leaves) l.key ≡ true;
  ends : l.end < length l.nodes → starts_at_most (low_of (get_or l.nodes l.end nothing).leaves) l.key ≡ false;
}

abbrev pub decreases-loop-end : goal.decreases-loop-end
decreases-loop-end l = l.end - l.i
