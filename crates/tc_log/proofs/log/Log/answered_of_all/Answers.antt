use Rattle.std.proofs.Common.{◌-◌, length}
use Rattle.tc_log.proofs.Answered.{answered_whole}
use Rattle.tc_log.proofs.log.Log.answered_of_all.Goals as goal

pub answered_from-requires : goal.answered_from-requires
answered_from-requires g c =
    let frames = c.self.inside.frames in
    answered_whole (length frames.records - c.self.inside.stable) frames.records c.self.inside.answered
    c.self.invariant.greatest.is
