use Rattle.std.proofs.Common.{◌≡◌, ◌≤◌, ◌+◌, ◌-◌, length}
use Rattle.node_laws.specs.Component.{tc_size}
use Rattle.node_sides.proofs.crashing.cut_after.Given as goal

-- the records up to this number stand in the bytes that are kept
abbrev pub invariant-loop-number : goal.invariant-loop-number
invariant-loop-number g l =
    (l.tc.stable ≤ l.number) × (l.number ≤ length l.tc.log) × (l.end ≡ tc_size l.tc.log l.number)
    × (l.end ≤ l.start + l.kept)

abbrev pub decreases-loop-number : goal.decreases-loop-number
decreases-loop-number g l = length l.tc.log - l.number
