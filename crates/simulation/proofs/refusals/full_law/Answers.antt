use Rattle.simulation.proofs.Refusing.{full_is_a_line, full_of_savepoints_is_a_line}
use Rattle.simulation.proofs.refusals.full_law.Goals as goal

pub returns : goal.returns
returns c = record { of_transactions = full_is_a_line; of_savepoints = full_of_savepoints_is_a_line }
