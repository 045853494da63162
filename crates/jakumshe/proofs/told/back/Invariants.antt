use Rattle.std.proofs.Common.{◌≡◌, drop}
use Rattle.jakumshe.specs.Calls.{first_end, goes_back}
use Rattle.jakumshe.proofs.told.back.Given as goal

abbrev pub invariant-loop-out : goal.invariant-loop-out
invariant-loop-out l = first_end (goes_back l.txn l.savepoint) l.told ≡ first_end (goes_back l.txn l.savepoint) (drop l.out-index l.told)
