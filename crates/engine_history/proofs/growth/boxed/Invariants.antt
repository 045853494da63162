use Rattle.std.proofs.Common.{◌≡◌}
use Rattle.engine_history.proofs.growth.boxed.Given as goal

abbrev pub invariant-loop : goal.invariant-loop
invariant-loop g l =
    (l.value ≡ l.initial.value) × (goal.iterator-loop g).can_next l.iterator'
    × (goal.iterator-loop g).is_finite l.iterator'
