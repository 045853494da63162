use Rattle.simulation.proofs.Calling.{act_is_a_step}
use Rattle.simulation.proofs.running.act_law.Goals as goal

pub returns : goal.returns
returns c = act_is_a_step
