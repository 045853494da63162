use Rattle.std.proofs.Common.{◌∙◌, ap, arith, length}
use Rattle.tc_log.specs.Appended.{record_of}
use Rattle.tc_log.specs.Kept.{FramesView}
use Rattle.tc_log.proofs.Kept.{kept_longer}
use Rattle.tc_log.proofs.log.Log.add.Goals as goal

pub invariant_of-self-2 : goal.invariant_of-self-2
invariant_of-self-2 g c =
    rw (c.in_ok-append.ensures.appended, c.last_with-self-inside.ensures)
    (kept_longer g.D.LogDevice.forces_whole c.self.inside.frames c.self.inside.stable c.self.inside.answered
    c.self.inside.last_not_session (record_of c.args.appended.now) c.len-number.result c.self.invariant
    (c.len-number.ensures.count ∙ ap (λ (f : FramesView). length f.records) c.in_ok-append.ensures.appended
    ∙ omega arith))
