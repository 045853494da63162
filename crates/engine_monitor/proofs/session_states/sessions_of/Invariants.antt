use Rattle.std.proofs.Common.{◌≡◌, ◌++◌}
use Rattle.std.specs.List.{AllByRecursion}
use Rattle.engine_guarded.specs.engine_history.specs.Closing.{IsFresh, numbers_named}
use Rattle.engine_monitor.specs.Engines.{IsFreshState, numbers_in}
use Rattle.engine_monitor.proofs.session_states.sessions_of.Given as goal

-- those so far have made no call
abbrev pub invariant-loop-state : goal.invariant-loop-state
invariant-loop-state g l =
    let J = g.J.Naming in
    let rest = l.state-iterator.rest.items in
    AllByRecursion (IsFresh J.marks) l.sessions.items × AllByRecursion (IsFreshState J.marks) rest
    × (numbers_named l.sessions.items ++ numbers_in rest ≡ numbers_in l.fn.states.items)
