use Rattle.simulation.proofs.Answering.{answer_is_told}
use Rattle.simulation.proofs.running.told_answer_law.Goals as goal

pub returns : goal.returns
returns c = answer_is_told
