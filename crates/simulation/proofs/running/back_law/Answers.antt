use Rattle.simulation.proofs.Ending.{back_is_told}
use Rattle.simulation.proofs.running.back_law.Goals as goal

pub returns : goal.returns
returns c = back_is_told
