use Rattle.std.proofs.Common.{◌≤◌}
use Rattle.codec.proofs.Gaps.{IsMovedUp}
use Rattle.codec.proofs.gap.move_up.Given as goal

abbrev pub invariant-loop-left : goal.invariant-loop-left
invariant-loop-left l = (l.from ≤ l.left) × IsMovedUp l.by l.left l.fn.bytes l.bytes

abbrev pub decreases-loop-left : goal.decreases-loop-left
decreases-loop-left l = l.left
