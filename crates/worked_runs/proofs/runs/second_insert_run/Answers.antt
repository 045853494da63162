use Rattle.worked_runs.proofs.Rows.{second_insert_is_run, inserted_twice_is_none}
use Rattle.worked_runs.proofs.runs.second_insert_run.Goals as goal

pub returns : goal.returns
returns c = record { is_run = second_insert_is_run; is_none = inserted_twice_is_none }
