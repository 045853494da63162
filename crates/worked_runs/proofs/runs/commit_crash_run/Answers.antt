use Rattle.worked_runs.proofs.CrashRows.{commit_stays_is_run, commit_falls_is_run, told_commit_falls_is_none}
use Rattle.worked_runs.proofs.runs.commit_crash_run.Goals as goal

pub returns : goal.returns
returns c = record { stays = commit_stays_is_run; falls = commit_falls_is_run; is_none = told_commit_falls_is_none }
