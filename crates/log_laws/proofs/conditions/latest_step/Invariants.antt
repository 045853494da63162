use Rattle.std.proofs.Common.{◌≤◌, reverse}
use Rattle.history.specs.Log.{IsStepOf}
use Rattle.history.specs.Legal.{IsLatestOrNone}
use Rattle.log_laws.proofs.conditions.latest_step.Given as goal

abbrev pub invariant-loop-place : goal.invariant-loop-place
invariant-loop-place l = IsLatestOrNone (λ n. IsStepOf (reverse l.log) l.txn n × (n ≤ l.place)) l.latest
