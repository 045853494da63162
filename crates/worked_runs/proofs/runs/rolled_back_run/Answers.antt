use Rattle.std.proofs.Common.{arith}
use Rattle.worked_runs.proofs.Rows.{rolled_back_is_run, never_rolling_back_is_none, number_twice_is_none}
use Rattle.worked_runs.proofs.runs.rolled_back_run.Goals as goal

pub returns : goal.returns
returns c = grind (arith, rolled_back_is_run, never_rolling_back_is_none, number_twice_is_none)
