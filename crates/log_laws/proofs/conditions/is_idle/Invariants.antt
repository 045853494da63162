use Rattle.std.proofs.Common.{◌≤◌, ℕ, reverse}
use Rattle.log_laws.specs.Reading.{Waits}
use Rattle.log_laws.proofs.conditions.is_idle.Given as goal

abbrev pub invariant-loop-place : goal.invariant-loop-place
invariant-loop-place l = (n : ℕ) → n ≤ l.place → Waits (reverse l.log) l.txn n → ⊥
