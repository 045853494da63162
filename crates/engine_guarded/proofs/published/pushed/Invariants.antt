use Rattle.std.proofs.Common.{◌≡◌}
use Rattle.engine_guarded.proofs.published.pushed.Given as goal

abbrev pub invariant-loop : goal.invariant-loop
invariant-loop g l =
    (l.entry ≡ l.initial.entry) × (goal.iterator-loop g).can_next l.iterator'
    × (goal.iterator-loop g).is_finite l.iterator'
