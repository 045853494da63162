use Rattle.std.proofs.Common.{◌≡◌, drop}
use Rattle.jakumshe.specs.Calls.{first_end, answers}
use Rattle.jakumshe.proofs.told.answer.Given as goal

abbrev pub invariant-loop-out : goal.invariant-loop-out
invariant-loop-out l = first_end (answers l.txn) l.told ≡ first_end (answers l.txn) (drop l.out-index l.told)
