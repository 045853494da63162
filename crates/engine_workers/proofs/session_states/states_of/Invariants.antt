use Rattle.std.proofs.Common.{◌≡◌, ◌++◌}
use Rattle.std.specs.List.{AllByRecursion}
use Rattle.engine_workers.specs.Closing.{IsAtMarks, seen_as, seen_by}
use Rattle.engine_workers.proofs.session_states.states_of.Given as goal

-- those so far, and of those that are left, are all
abbrev pub invariant-loop-session : goal.invariant-loop-session
invariant-loop-session g l =
    (seen_by l.states.items ++ seen_as l.session-iterator.rest.items ≡ seen_as l.fn.sessions.items)
    × AllByRecursion (IsAtMarks g.J.Naming.marks) l.states.items
