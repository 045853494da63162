use Rattle.simulation.proofs.Refusing.{rolling_back_is_a_line}
use Rattle.simulation.proofs.refusals.rolling_back_law.Goals as goal

pub returns : goal.returns
returns c = rolling_back_is_a_line
