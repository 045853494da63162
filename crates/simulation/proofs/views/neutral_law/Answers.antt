use Rattle.simulation.proofs.Viewing.{neutral_is_no_step}
use Rattle.simulation.proofs.views.neutral_law.Goals as goal

pub returns : goal.returns
returns c = neutral_is_no_step
