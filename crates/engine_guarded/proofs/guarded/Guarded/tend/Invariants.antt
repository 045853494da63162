use Rattle.engine_guarded.specs.Running.{GoesOn}
use Rattle.engine_guarded.proofs.guarded.Guarded.tend.Given as goal

-- no call was made so far
abbrev pub invariant-loop : goal.invariant-loop
invariant-loop g l = GoesOn l.fn.self.steps l.self.steps
