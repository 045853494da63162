use Rattle.simulation.proofs.Refusing.{bad_range_is_a_line}
use Rattle.simulation.proofs.refusals.bad_range_law.Goals as goal

pub returns : goal.returns
returns c = bad_range_is_a_line
