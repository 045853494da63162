use Rattle.node_world.specs.Seen.{seen}
use Rattle.node_sides.specs.node_laws.proofs.Invariant.Promised.{promised}
use Rattle.node_world.proofs.world.World.kept.Goals as goal

pub returns-clause-promised : goal.returns-clause-promised
returns-clause-promised g c = rw (← c.self.view_is) (promised (seen c.self.inside.node) c.self.invariant.kept)
