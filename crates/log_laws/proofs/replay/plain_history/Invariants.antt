use Rattle.std.proofs.Common.{◌≡◌, reverse, take}
use Rattle.history.specs.History.{plain}
use Rattle.history.specs.Log.{hist_in}
use Rattle.log_laws.proofs.replay.plain_history.Given as goal

abbrev pub invariant-loop-place : goal.invariant-loop-place
invariant-loop-place l = l.table ≡ plain (hist_in (reverse l.log) (reverse (take l.place l.log)))
