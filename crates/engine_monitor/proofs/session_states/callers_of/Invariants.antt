use Rattle.std.proofs.Common.{◌≡◌, ◌++◌}
use Rattle.std.specs.List.{AllByRecursion}
use Rattle.engine_guarded.specs.Closing.{IsIdle}
use Rattle.engine_monitor.specs.Engines.{callers_as, callers_in}
use Rattle.engine_monitor.proofs.session_states.callers_of.Given as goal

-- those so far, and of those that are left, are all
abbrev pub invariant-loop-session : goal.invariant-loop-session
invariant-loop-session g l =
    (callers_in l.callers.items ++ callers_as l.session-iterator.rest.items ≡ callers_as l.fn.sessions.items)
    × AllByRecursion IsIdle l.callers.items
