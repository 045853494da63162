use Rattle.simulation.proofs.Saving.{save_is_a_step}
use Rattle.simulation.proofs.running.save_law.Goals as goal

pub returns : goal.returns
returns c = save_is_a_step
