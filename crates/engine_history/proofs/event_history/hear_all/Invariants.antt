use Rattle.std.proofs.Common.{◌≡◌, ◌++◌, take, drop, map}
use Rattle.engine_history.specs.Kept.{place_after}
use Rattle.engine_history.proofs.event_history.hear_all.Given as goal

-- those so far have heard
abbrev pub invariant-loop-place : goal.invariant-loop-place
invariant-loop-place g l =
    l.place-items ≡ map (place_after l.fn.token) (take l.place-index l.initial.place-items)
    ++ drop l.place-index l.initial.place-items
