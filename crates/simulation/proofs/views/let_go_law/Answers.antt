use Rattle.simulation.proofs.Leftovers.{let_go_is_no_step}
use Rattle.simulation.proofs.views.let_go_law.Goals as goal

pub returns : goal.returns
returns c = let_go_is_no_step
