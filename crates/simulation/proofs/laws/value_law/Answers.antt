use Rattle.simulation.proofs.Resting.{values_last}
use Rattle.simulation.proofs.AtRest.{at_rest_by_the_log, opened_is_at_rest}
use Rattle.simulation.proofs.laws.value_law.Goals as goal

pub returns : goal.returns
returns c = record { lasts = values_last; at_rest = at_rest_by_the_log; opened = opened_is_at_rest }
