-- Two logs, with a Commit and without, and what each can stand for after a crash.
use Rattle.std.proofs.Common.{◌≡◌, ℕ, ◌∷◌, Some, arith}
use Rattle.record_key.specs.declared.op.Op.{Op}
use Rattle.record_key.specs.declared.op.Answer.{Answer}
use Rattle.history.specs.declared.record.Record.TheVariants as is
use Rattle.history.specs.Log.{record_at}
use Rattle.simulation.specs.Examples.{answered_once, UncommittedIsLost, CommittedStays}

pub uncommitted_is_lost : UncommittedIsLost
uncommitted_is_lost o a m stands = grind arith

-- no End stands there
no_end : (o : Op) (a : Answer) (n : ℕ) → record_at (is.Commit 1 ∷ answered_once o a) n ≡ Some (is.End 1) → ⊥
no_end o a n at = grind arith

pub committed_stays : CommittedStays
committed_stays o a m stands = grind arith
