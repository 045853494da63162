use Rattle.node_sides.specs.node_laws.specs.Kept.{IsKept}
use Rattle.node_sides.specs.node_laws.specs.Bound.{rounds_left}
use Rattle.node_sides.specs.node_laws.proofs.Settles.Playing.{SoFar}
use Rattle.node_world.proofs.settling.settle.Given as goal

abbrev pub invariant-loop-round : goal.invariant-loop-round
invariant-loop-round g l = record {
  far : SoFar l.initial.world l.fn.most l.initial.out.items l.left l.out.items l.world;
  kept : IsKept l.world;
}

abbrev pub decreases-loop-round : goal.decreases-loop-round
decreases-loop-round g l = rounds_left l.world
