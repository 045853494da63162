use Rattle.simulation.proofs.Refusing.{busy_is_a_line}
use Rattle.simulation.proofs.refusals.busy_law.Goals as goal

pub returns : goal.returns
returns c = busy_is_a_line
