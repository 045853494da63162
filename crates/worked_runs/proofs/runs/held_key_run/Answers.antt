use Rattle.worked_runs.proofs.CrashRows.{key_stays_held_is_run, held_key_is_taken_is_none}
use Rattle.worked_runs.proofs.runs.held_key_run.Goals as goal

pub returns : goal.returns
returns c = record { is_run = key_stays_held_is_run; is_none = held_key_is_taken_is_none }
