use Rattle.worked_runs.proofs.BusyRows.{read_is_busy_is_run, held_key_is_read_is_none}
use Rattle.worked_runs.proofs.runs.busy_read_run.Goals as goal

pub returns : goal.returns
returns c = record { is_run = read_is_busy_is_run; is_none = held_key_is_read_is_none }
