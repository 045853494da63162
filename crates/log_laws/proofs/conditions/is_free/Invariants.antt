use Rattle.std.proofs.Common.{◌≤◌, ℕ, reverse}
use Rattle.log_laws.specs.Reading.{Blocks}
use Rattle.log_laws.proofs.conditions.is_free.Given as goal

abbrev pub invariant-loop-place : goal.invariant-loop-place
invariant-loop-place l = (n : ℕ) → n ≤ l.place → Blocks (reverse l.log) l.txn l.op n → ⊥
