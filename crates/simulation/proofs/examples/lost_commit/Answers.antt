use Rattle.simulation.proofs.Exemplary.{uncommitted_is_lost}
use Rattle.simulation.proofs.examples.lost_commit.Goals as goal

pub returns : goal.returns
returns c = uncommitted_is_lost
