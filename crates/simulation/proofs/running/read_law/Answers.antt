use Rattle.simulation.proofs.Looking.{read_is_a_step}
use Rattle.simulation.proofs.running.read_law.Goals as goal

pub returns : goal.returns
returns c = read_is_a_step
