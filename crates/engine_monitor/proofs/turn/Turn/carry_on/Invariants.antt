use Rattle.std.proofs.Common.{◌≡◌, false}
use Rattle.engine_guarded.specs.Callers.{Follows}
use Rattle.engine_guarded.specs.engine_history.specs.Sessions.{SessionCalls, is_pending}
use Rattle.engine_monitor.specs.Ending.{calls_in}
use Rattle.engine_monitor.proofs.turn.Turn.carry_on.Given as goal

-- what is new follows from the call; where more is told of it the session hasn't moved
abbrev pub invariant-loop : goal.invariant-loop
invariant-loop g l =
    let o = l.initial.outs.call in
    (l.caller.number ≡ l.initial.caller.number) × (l.caller.busy ≡ false) × (l.outs.call ≡ o)
    × ((mid : SessionCalls) → Follows o mid l.initial.status (calls_in l.initial.caller) → Follows o mid l.status (calls_in l.caller))
    × (is_pending o ≡ false → l.caller ≡ l.initial.caller) × (goal.iterator-loop g).can_next l.iterator'
    × (goal.iterator-loop g).is_finite l.iterator'
