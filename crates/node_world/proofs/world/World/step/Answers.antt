use Rattle.node_sides.specs.node_laws.proofs.Devices.Refusals.{steps_are_readable}
use Rattle.node_world.proofs.world.World.step.Goals as goal

pub returns-clause-readable : goal.returns-clause-readable
returns-clause-readable g c =
    steps_are_readable c.args.self.now c.step_into.new.self c.args.event.now c.step_into.new.out c.step_into.ensures
