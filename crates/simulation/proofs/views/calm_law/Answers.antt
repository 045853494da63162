use Rattle.simulation.proofs.Viewing.{calm_entries}
use Rattle.simulation.proofs.views.calm_law.Goals as goal

pub returns : goal.returns
returns c = calm_entries
