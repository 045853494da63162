use Rattle.simulation.proofs.Ending.{commit_is_a_step}
use Rattle.simulation.proofs.running.asked_commit_law.Goals as goal

pub returns : goal.returns
returns c = commit_is_a_step
