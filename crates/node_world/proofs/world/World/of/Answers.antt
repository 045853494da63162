use Rattle.std.proofs.Common.{sym, subst}
use Rattle.node_sides.specs.node_laws.specs.Standing.{IsNode}
use Rattle.node_world.proofs.world.World.of.Goals as goal

pub invariant_of-result : goal.invariant_of-result
invariant_of-result g c = subst IsNode (sym c.of.ensures) c.requires.kept
