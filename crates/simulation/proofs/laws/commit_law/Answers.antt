use Rattle.simulation.proofs.Told.{commits_are_told}
use Rattle.simulation.proofs.laws.commit_law.Goals as goal

pub returns : goal.returns
returns c = commits_are_told
