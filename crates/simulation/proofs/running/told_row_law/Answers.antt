use Rattle.simulation.proofs.Looking.{row_is_told}
use Rattle.simulation.proofs.running.told_row_law.Goals as goal

pub returns : goal.returns
returns c = row_is_told
