use Rattle.simulation.proofs.Calling.{begin_is_a_step}
use Rattle.simulation.proofs.running.begin_law.Goals as goal

pub returns : goal.returns
returns c = begin_is_a_step
