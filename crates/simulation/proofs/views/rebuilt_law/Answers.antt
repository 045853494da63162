use Rattle.simulation.proofs.Leftovers.{rebuilt_spans_are_no_step}
use Rattle.simulation.proofs.views.rebuilt_law.Goals as goal

pub returns : goal.returns
returns c = rebuilt_spans_are_no_step
