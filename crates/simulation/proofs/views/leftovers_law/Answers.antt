use Rattle.simulation.proofs.Leftovers.{leftovers_are_no_step}
use Rattle.simulation.proofs.views.leftovers_law.Goals as goal

pub returns : goal.returns
returns c = leftovers_are_no_step
