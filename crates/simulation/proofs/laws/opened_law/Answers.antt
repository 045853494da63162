use Rattle.simulation.proofs.Reading.{opened_is_read}
use Rattle.simulation.proofs.laws.opened_law.Goals as goal

pub returns : goal.returns
returns c = opened_is_read
