use Rattle.std.proofs.Common.{◌≡◌, drop}
use Rattle.jakumshe.specs.Calls.{first_end, rolls_back}
use Rattle.jakumshe.proofs.told.rolled_back.Given as goal

abbrev pub invariant-loop-out : goal.invariant-loop-out
invariant-loop-out l = first_end (rolls_back l.txn) l.told ≡ first_end (rolls_back l.txn) (drop l.out-index l.told)
