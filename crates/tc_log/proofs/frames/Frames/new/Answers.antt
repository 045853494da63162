use Rattle.std.proofs.Common.{◌≡◌, List, ℕ, [], ◌++◌, refl}
use Rattle.codec.specs.FrameIndex.{places_of}
use Rattle.framed_log.specs.Spelled as framed
use Rattle.tc_log.specs.Spelled.{records_of}
use Rattle.tc_log.proofs.Framed.{indexed_unread}
use Rattle.tc_log.proofs.frames.Frames.new.Goals as goal

none_read : (bytes : List ℕ) → records_of bytes 0 ≡ []
unfolding framed.records_at places_of
none_read bytes = refl

pub invariant_of-result : goal.invariant_of-result
invariant_of-result g c =
    let bytes : List ℕ = g.D.LogDevice.forced c.args.device ++ g.D.LogDevice.pending c.args.device in
    rw (c.new.ensures.marks, c.new.ensures.count, c.new-2.ensures.items, none_read bytes) (indexed_unread bytes)

pub returns : goal.returns
returns g c =
    let bytes : List ℕ = g.D.LogDevice.forced c.args.device ++ g.D.LogDevice.pending c.args.device in
    rw (c.new.ensures.count, none_read bytes) refl
