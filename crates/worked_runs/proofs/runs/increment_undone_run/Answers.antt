use Rattle.worked_runs.proofs.AddRows.{increment_undone_is_run, old_value_restored_is_none}
use Rattle.worked_runs.proofs.runs.increment_undone_run.Goals as goal

pub returns : goal.returns
returns c = record { is_run = increment_undone_is_run; is_none = old_value_restored_is_none }
