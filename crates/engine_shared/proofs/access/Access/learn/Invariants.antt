use Rattle.std.proofs.Common.{◌≡◌}
use Rattle.engine_shared.proofs.access.Access.learn.Given as goal

-- it is a seat at the same marks
abbrev pub invariant-loop : goal.invariant-loop
invariant-loop g l =
    (l.seat.marks ≡ g.J.Naming.marks) × (goal.iterator-loop g).can_next l.iterator'
    × (goal.iterator-loop g).is_finite l.iterator'
