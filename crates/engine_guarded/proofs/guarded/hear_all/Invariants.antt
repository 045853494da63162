use Rattle.std.proofs.Common.{◌≡◌, ◌++◌, take, drop, map}
use Rattle.engine_guarded.specs.Places.{place_after}
use Rattle.engine_guarded.specs.Running.{made}
use Rattle.engine_guarded.proofs.guarded.hear_all.Given as goal

-- those so far have heard
abbrev pub invariant-loop-place : goal.invariant-loop-place
invariant-loop-place g l =
    l.place-items ≡ map (place_after (made l.fn.caller l.fn.event l.fn.out)) (take l.place-index l.initial.place-items)
    ++ drop l.place-index l.initial.place-items
