use Rattle.simulation.proofs.Refusing.{unanswered_is_a_line}
use Rattle.simulation.proofs.refusals.unanswered_law.Goals as goal

pub returns : goal.returns
returns c = unanswered_is_a_line
