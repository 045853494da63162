use Rattle.std.proofs.Common.{◌≤◌, ◌<◌, reverse}
use Rattle.history.specs.Legal.{IsLatestOrNone, Stands}
use Rattle.log_laws.proofs.conditions.latest_left.Given as goal

abbrev pub invariant-loop-place : goal.invariant-loop-place
invariant-loop-place l = IsLatestOrNone (λ n. (Stands (reverse l.log) l.txn n × (n < l.below)) × (n ≤ l.place)) l.latest
