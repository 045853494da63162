use Rattle.simulation.proofs.Refusing.{node_refusal_is_a_line}
use Rattle.simulation.proofs.refusals.node_refusal_law.Goals as goal

pub returns : goal.returns
returns c = node_refusal_is_a_line
