use Rattle.simulation.proofs.Told.{losers_are_told}
use Rattle.simulation.proofs.laws.lost_law.Goals as goal

pub returns : goal.returns
returns c = losers_are_told
