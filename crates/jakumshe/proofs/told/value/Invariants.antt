use Rattle.std.proofs.Common.{◌≡◌, drop}
use Rattle.jakumshe.specs.Calls.{first_end, finds}
use Rattle.jakumshe.proofs.told.value.Given as goal

abbrev pub invariant-loop-out : goal.invariant-loop-out
invariant-loop-out l = first_end (finds l.txn) l.told ≡ first_end (finds l.txn) (drop l.out-index l.told)
