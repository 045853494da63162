use Rattle.simulation.proofs.Looking.{rows_are_told}
use Rattle.simulation.proofs.running.told_rows_law.Goals as goal

pub returns : goal.returns
returns c = rows_are_told
