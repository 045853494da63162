use Rattle.std.proofs.Common.{◌≡◌}
use Rattle.std.specs.List.{AllByRecursion}
use Rattle.engine_workers.specs.Closing.{IsAtMarks, IsCovered, seen_by}
use Rattle.engine_workers.proofs.session_states.cover.Given as goal

-- all are covered once those are that are left
abbrev pub invariant-loop-state : goal.invariant-loop-state
invariant-loop-state g l =
    let rest = l.state-iterator.rest.items in
    let stable = l.fn.tc.state.side.tc.stable in
    (l.history ≡ l.fn.history) × (l.tc.state ≡ l.fn.tc.state) × AllByRecursion (IsAtMarks g.J.Naming.marks) rest
    × (AllByRecursion (IsCovered l.fn.history stable) (seen_by rest)
    → AllByRecursion (IsCovered l.fn.history stable) (seen_by l.fn.states.items))
