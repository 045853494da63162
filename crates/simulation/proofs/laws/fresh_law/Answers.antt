use Rattle.simulation.proofs.Told.{fresh_stands}
use Rattle.simulation.proofs.laws.fresh_law.Goals as goal

pub returns : goal.returns
returns c = fresh_stands
