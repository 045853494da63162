use Rattle.simulation.proofs.Exemplary.{committed_stays}
use Rattle.simulation.proofs.examples.kept_commit.Goals as goal

pub returns : goal.returns
returns c = committed_stays
