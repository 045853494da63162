use Rattle.std.proofs.Common.{◌≡◌}
use Rattle.std.specs.List.{AllByRecursion}
use Rattle.engine_guarded.specs.Closing.{HasSeenAll, IsIdle}
use Rattle.engine_guarded.proofs.closed.see_all.Given as goal

-- all have seen their calls once those have that are left
abbrev pub invariant-loop-caller : goal.invariant-loop-caller
invariant-loop-caller g l =
    let rest = l.caller-iterator.rest.items in
    let es = l.fn.guarded.steps in
    (l.guarded ≡ l.fn.guarded) × AllByRecursion IsIdle rest
    × (AllByRecursion (HasSeenAll es) rest → AllByRecursion (HasSeenAll es) l.fn.callers.items)
