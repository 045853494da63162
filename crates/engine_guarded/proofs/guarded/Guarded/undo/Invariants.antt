use Rattle.engine_guarded.specs.Running.{GoesOn}
use Rattle.engine_guarded.proofs.guarded.Guarded.undo.Given as goal

-- no call was made so far
abbrev pub invariant-loop : goal.invariant-loop
invariant-loop g l =
    GoesOn l.initial.self.steps l.self.steps × (goal.iterator-loop g).can_next l.iterator'
    × (goal.iterator-loop g).is_finite l.iterator'
