use Rattle.std.proofs.Common.{◌≡◌, ◌+◌, ◌*◌, ◌/◌}
use Rattle.codec.specs.FrameIndex.{place_at}
use Rattle.codec.proofs.frame_index.FrameIndex.place.Given as goal

abbrev pub invariant-loop : goal.invariant-loop
invariant-loop l = l.place ≡ place_at l.bytes (8 * (l.before / 8) + l.counter)
