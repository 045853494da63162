use Rattle.simulation.proofs.Undoing.{rollback_is_a_step}
use Rattle.simulation.proofs.running.rollback_law.Goals as goal

pub returns : goal.returns
returns c = rollback_is_a_step
