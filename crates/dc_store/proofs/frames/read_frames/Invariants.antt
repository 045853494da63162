use Rattle.std.proofs.Common.{length, drop}
use Rattle.dc_store.proofs.HasRead.{HasRead}
use Rattle.dc_store.proofs.frames.read_frames.Given as goal

abbrev pub invariant-loop-reading : goal.invariant-loop-reading
invariant-loop-reading l = HasRead l.bytes l.reading

abbrev pub decreases-loop-reading : goal.decreases-loop-reading
decreases-loop-reading l = length (drop l.reading.end l.bytes)
