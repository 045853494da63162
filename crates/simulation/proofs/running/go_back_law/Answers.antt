use Rattle.simulation.proofs.Saving.{go_back_is_a_step}
use Rattle.simulation.proofs.running.go_back_law.Goals as goal

pub returns : goal.returns
returns c = go_back_is_a_step
