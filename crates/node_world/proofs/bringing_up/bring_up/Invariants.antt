use Rattle.node_sides.specs.node_laws.specs.Bound.{rounds_left}
use Rattle.node_sides.specs.node_laws.specs.Kept.{IsKept}
use Rattle.node_world.proofs.BringingUp.{EasedSoFar}
use Rattle.node_world.proofs.bringing_up.bring_up.Given as goal

abbrev pub invariant-loop-round : goal.invariant-loop-round
invariant-loop-round g l = record {
  far : EasedSoFar l.initial.world l.initial.told.items l.told.items l.world;
  kept : IsKept l.world;
}

abbrev pub decreases-loop-round : goal.decreases-loop-round
decreases-loop-round g l = rounds_left l.world
