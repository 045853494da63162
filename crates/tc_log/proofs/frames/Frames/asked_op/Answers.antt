use Rattle.std.proofs.Common.{◌∙◌, sym, ap}
use Rattle.history.specs.Log.{request_of, request_in}
use Rattle.tc_log.proofs.Framed.{none_kept, tells_kept}
use Rattle.tc_log.proofs.frames.Frames.asked_op.Goals as goal

pub returns-in_err-place : goal.returns-in_err-place
returns-in_err-place g c =
    c.from_residual.ensures ∙ rw (← c.self.view_is) (ap request_in (sym (none_kept _ _ _ _ _ _ c.self.invariant.frames
    c.args.number (rw c.held.ensures at c.in_err-place.ensures.none))))

pub returns : goal.returns
returns g c =
    let t = tells_kept request_of _ _ _ _ _ _ c.self.invariant.frames c.args.number c.in_ok-place.place
    c.held-2.result.now c.asked_op.result c.held-2.ensures
    (rw c.held.ensures at c.in_ok-place.ensures.some)
    c.asked_op.ensures in
    rw (← c.self.view_is) (t.told_is ∙ ap request_in (sym t.is))
