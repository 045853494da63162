use Rattle.std.proofs.Common.{◌≡◌, ◌+◌, [], length}
use Rattle.std.specs.List.{AllByRecursion}
use Rattle.engine_sessions.specs.engine_history.specs.Closing.{below}
use Rattle.engine_workers.specs.Closing.{IsFreshState, numbers_in}
use Rattle.engine_sessions.specs.engine_history.specs.Kept.{PlacesKept}
use Rattle.engine_workers.specs.Opened.{ReadsMarks, agreements_of}
use Rattle.engine_workers.proofs.Opening.{AgreedFrom}
use Rattle.engine_workers.proofs.session_states.start_all.Given as goal

-- those so far have a place and a state, and the agreements that are left have the next names
abbrev pub invariant-loop-session_start : goal.invariant-loop-session_start
invariant-loop-session_start g l =
    let J = g.J.Naming in
    let rest = l.session_start-iterator.rest.items in
    PlacesKept J.entries J.names [] l.places.items × (length l.places.items ≡ l.number)
    × AllByRecursion (IsFreshState J.marks) l.states.items × (numbers_in l.states.items ≡ below l.number)
    × AllByRecursion (ReadsMarks J.marks) rest × AgreedFrom J.names l.number (agreements_of rest)
    × (l.number + length rest ≡ J.sessions)
