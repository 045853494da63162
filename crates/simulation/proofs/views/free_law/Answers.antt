use Rattle.simulation.proofs.Spanning.{free_spans, free_by_true_spans}
use Rattle.simulation.proofs.views.free_law.Goals as goal

pub returns : goal.returns
returns c = record { by_losers_keys = free_spans; by_true_spans = free_by_true_spans }
