use Rattle.std.proofs.Common.{◌≤◌, ℕ, reverse}
use Rattle.log_laws.specs.Reading.{LacksAnswer}
use Rattle.log_laws.proofs.conditions.are_answered.Given as goal

abbrev pub invariant-loop-place : goal.invariant-loop-place
invariant-loop-place l = (n : ℕ) → n ≤ l.place → LacksAnswer (reverse l.log) l.low n → ⊥
