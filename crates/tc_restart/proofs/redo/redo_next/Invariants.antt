use Rattle.std.proofs.Common.{ℕ, ◌-◌, ◌≤◌}
use Rattle.tc_restart.specs.Redo.{Asks}
use Rattle.tc_restart.proofs.redo.redo_next.Given as goal

abbrev pub invariant-loop-number : goal.invariant-loop-number
invariant-loop-number g l = record {
  from_there : l.from ≤ l.number;
  none : (n : ℕ) → Asks l.log.records l.from l.number n → ⊥;
}

abbrev pub decreases-loop-number : goal.decreases-loop-number
decreases-loop-number g l = l.session - l.number
