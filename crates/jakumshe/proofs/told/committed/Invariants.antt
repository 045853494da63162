use Rattle.std.proofs.Common.{◌≡◌, drop}
use Rattle.jakumshe.specs.Calls.{first_end, commits}
use Rattle.jakumshe.proofs.told.committed.Given as goal

abbrev pub invariant-loop-out : goal.invariant-loop-out
invariant-loop-out l = first_end (commits l.txn) l.told ≡ first_end (commits l.txn) (drop l.out-index l.told)
