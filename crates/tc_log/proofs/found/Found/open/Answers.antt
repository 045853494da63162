use Rattle.std.proofs.Common.{◌≡◌, ◌∙◌, sym, ap}
use Rattle.tc_log.specs.Kept.{FramesView}
use Rattle.tc_log.specs.LogView.{last_not_session}
use Rattle.tc_log.specs.Spelled.{spelled}
use Rattle.tc_log.proofs.Kept.{kept_all}
use Rattle.tc_log.proofs.found.Found.open.Goals as goal

pub invariant_of-result : goal.invariant_of-result
invariant_of-result g c =
    let frames : FramesView = c.cut_left.new.frames in
    let same : frames.records ≡ c.self.inside.frames.records = c.in_default.ensures.records in
    rw c.len-stable.ensures.count
    (kept_all g.D.LogDevice.forces_whole frames c.answered_from-answered.result
    c.self.inside.index.last_not_session c.in_default.ensures.read
    (c.in_default.ensures.forced ∙ ap spelled (sym same)) c.cut_left.ensures.pending
    c.answered_from-answered.ensures (c.self.invariant.indexed.last ∙ ap last_not_session (sym same)))
