use Rattle.simulation.proofs.Ending.{rolled_back_is_told}
use Rattle.simulation.proofs.running.rolled_back_law.Goals as goal

pub returns : goal.returns
returns c = rolled_back_is_told
