use Rattle.std.proofs.Common.{◌∙◌, sym}
use Rattle.tc_log.proofs.Framed.{none_kept, tells_kept, taken_from, taken_is}
use Rattle.tc_log.proofs.frames.Frames.record.Goals as goal

pub returns-in_err-place : goal.returns-in_err-place
returns-in_err-place g c =
    c.from_residual.ensures ∙ rw (← c.self.view_is) (sym (none_kept _ _ _ _ _ _ c.self.invariant.frames c.args.number
    (rw c.held.ensures at c.in_err-place.ensures.none)))

pub returns-in-Record : goal.returns-in-Record
returns-in-Record g c =
    rw (← c.self.view_is) (taken_is _ c.args.number c.in_ok-place.place c.take_record.result c.in-Record.found
    c.in-Record.field-1
    (tells_kept (taken_from c.in_ok-place.place) _ _ _ _ _ _ c.self.invariant.frames c.args.number
    c.in_ok-place.place c.held-2.result.now c.take_record.result c.held-2.ensures
    (rw c.held.ensures at c.in_ok-place.ensures.some) c.take_record.ensures.only)
    c.in-Record.is)

pub returns-in_default : goal.returns-in_default
returns-in_default g c =
    let t = tells_kept (taken_from c.in_ok-place.place) _ _ _ _ _ _ c.self.invariant.frames c.args.number
    c.in_ok-place.place c.held-2.result.now c.take_record.result c.held-2.ensures
    (rw c.held.ensures at c.in_ok-place.ensures.some) c.take_record.ensures.only in
    absurd (c.in_default.not-Record t.found _ t.told_is)
