use Rattle.worked_runs.proofs.BackRows.{insert_again_is_run, crossed_is_seen_is_none}
use Rattle.worked_runs.proofs.runs.savepoint_run.Goals as goal

pub returns : goal.returns
returns c = record { is_run = insert_again_is_run; is_none = crossed_is_seen_is_none }
