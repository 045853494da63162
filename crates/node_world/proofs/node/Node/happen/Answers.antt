use Rattle.node_world.specs.Seen.{seen}
use Rattle.node_sides.specs.node_laws.proofs.Halves.{may_dc}
use Rattle.node_world.proofs.node.Node.happen.Goals as goal

pub call-requires-in_default-2-clause-may : goal.call-requires-in_default-2-clause-may
call-requires-in_default-2-clause-may g c =
    may_dc (seen c.args.self.now) c.args.event.now c.requires c.in_default.not-Request
