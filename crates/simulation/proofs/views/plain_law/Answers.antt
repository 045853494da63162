use Rattle.simulation.proofs.Viewing.{plain_is_the_logs}
use Rattle.simulation.proofs.views.plain_law.Goals as goal

pub returns : goal.returns
returns c = plain_is_the_logs
