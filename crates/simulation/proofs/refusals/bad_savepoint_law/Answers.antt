use Rattle.simulation.proofs.Refusing.{bad_savepoint_is_a_line}
use Rattle.simulation.proofs.refusals.bad_savepoint_law.Goals as goal

pub returns : goal.returns
returns c = bad_savepoint_is_a_line
