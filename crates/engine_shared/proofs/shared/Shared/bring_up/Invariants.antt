use Rattle.std.proofs.Common.{◌≡◌}
use Rattle.engine_shared.proofs.shared.Shared.bring_up.Given as goal

-- it has given the same commands
abbrev pub invariant-loop : goal.invariant-loop
invariant-loop g l =
    (l.operator ≡ l.initial.operator) × (goal.iterator-loop g).can_next l.iterator'
    × (goal.iterator-loop g).is_finite l.iterator'
