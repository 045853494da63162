use Rattle.worked_runs.proofs.CrashRows.{numbers_again_is_run, committed_again_is_none}
use Rattle.worked_runs.proofs.runs.numbers_again_run.Goals as goal

pub returns : goal.returns
returns c = record { is_run = numbers_again_is_run; is_none = committed_again_is_none }
