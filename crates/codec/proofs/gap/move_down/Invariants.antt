use Rattle.std.proofs.Common.{◌-◌}
use Rattle.codec.proofs.Gaps.{IsMovedDown}
use Rattle.codec.proofs.gap.move_down.Given as goal

abbrev pub invariant-loop-at : goal.invariant-loop-at
invariant-loop-at l = IsMovedDown l.to l.by l.at l.fn.bytes l.bytes

abbrev pub decreases-loop-at : goal.decreases-loop-at
decreases-loop-at l = l.end - l.at
