use Rattle.std.proofs.Common.{◌≡◌}
use Rattle.std.specs.Prelude.{None}
use Rattle.engine_answers.specs.engine_history.specs.Callers.{IsUntold}
use Rattle.engine_answers.specs.engine_history.specs.InFlightCalls.{FailsSince}
use Rattle.engine_shared.proofs.shared.Shared.carry_on.Given as goal

-- nothing was told so far, and the transaction is what it was
abbrev pub invariant-loop : goal.invariant-loop
invariant-loop g l =
    (l.caller.number ≡ l.initial.caller.number) × IsUntold l.initial.caller.calls l.caller.calls
    × FailsSince l.initial.caller.calls.failures l.caller.calls.failures None
    × (l.caller.calls.live ≡ l.initial.caller.calls.live)
    × (goal.iterator-loop g).can_next l.iterator' × (goal.iterator-loop g).is_finite l.iterator'
