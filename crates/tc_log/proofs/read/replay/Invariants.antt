use Rattle.std.proofs.Common.{◌≡◌, length}
use Rattle.tc_log.specs.Opening.{BeginsAs}
use Rattle.tc_log.specs.KeysKept.{KeepsNoneOver}
use Rattle.tc_log.specs.Replay.{IsIndex}
use Rattle.tc_log.proofs.read.replay.Given as goal

abbrev pub invariant-loop-next : goal.invariant-loop-next
invariant-loop-next g l =
    BeginsAs l.initial.frames.left l.frames.records l.frames.left × IsIndex l.frames.records l.index
    × (l.frames.device ≡ l.initial.frames.device) × (g.J.Judge.shown l.judge ≡ l.frames.records)
    × KeepsNoneOver l.frames.records l.index

abbrev pub decreases-loop-next : goal.decreases-loop-next
decreases-loop-next g l = length l.frames.left
