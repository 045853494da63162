use Rattle.simulation.proofs.Refusing.{not_open_is_a_line}
use Rattle.simulation.proofs.refusals.not_open_law.Goals as goal

pub returns : goal.returns
returns c = not_open_is_a_line
