use Rattle.std.proofs.Common.{◌-◌, length}
use Rattle.history.specs.Legal.{FitsCheckpoint}
use Rattle.tc_log.proofs.frames.Frames.answered_from.Given as goal

abbrev pub invariant-loop-end : goal.invariant-loop-end
invariant-loop-end g l = FitsCheckpoint l.self.records l.end

abbrev pub decreases-loop-end : goal.decreases-loop-end
decreases-loop-end g l = length l.self.records - l.end
