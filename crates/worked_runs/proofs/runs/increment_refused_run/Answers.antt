use Rattle.worked_runs.proofs.AddRows.{add_refused_is_run, stale_value_added_is_none}
use Rattle.worked_runs.proofs.runs.increment_refused_run.Goals as goal

pub returns : goal.returns
returns c = record { is_run = add_refused_is_run; is_none = stale_value_added_is_none }
