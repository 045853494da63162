use Rattle.std.proofs.Common.{◌≡◌, drop}
use Rattle.jakumshe.specs.Calls.{first_end, lists}
use Rattle.jakumshe.proofs.told.rows.Given as goal

abbrev pub invariant-loop-out : goal.invariant-loop-out
invariant-loop-out l = first_end (lists l.txn) l.told ≡ first_end (lists l.txn) (drop l.out-index l.told)
