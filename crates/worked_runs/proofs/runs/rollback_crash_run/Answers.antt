use Rattle.worked_runs.proofs.CrashRows.{end_is_lost_is_run, nobody_is_lost_is_none}
use Rattle.worked_runs.proofs.runs.rollback_crash_run.Goals as goal

pub returns : goal.returns
returns c = record { is_run = end_is_lost_is_run; is_none = nobody_is_lost_is_none }
