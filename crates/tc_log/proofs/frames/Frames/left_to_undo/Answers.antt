use Rattle.std.proofs.Common.{◌∙◌, Option, Some, sym, ap}
use Rattle.history.specs.declared.record.Record.{Record}
use Rattle.history.specs.Chains.{undo_from}
use Rattle.tc_log.proofs.Framed.{none_kept, tells_kept}
use Rattle.tc_log.proofs.frames.Frames.left_to_undo.Goals as goal

pub returns-in-Some : goal.returns-in-Some
returns-in-Some g c =
    let t = tells_kept (λ (r : Record). undo_from (Some r) c.args.number) _ _ _ _ _ _ c.self.invariant.frames
    c.args.number c.in-Some.place c.held-in-Some.result.now c.left_to_undo.result c.held-in-Some.ensures
    (rw c.held.ensures at c.in-Some.ensures.some) c.left_to_undo.ensures in
    rw (← c.self.view_is) (t.told_is ∙ ap (λ (o : Option Record). undo_from o c.args.number) (sym t.is))

pub returns-in-None : goal.returns-in-None
returns-in-None g c =
    rw (← c.self.view_is) (ap (λ (o : Option Record). undo_from o c.args.number)
    (sym (none_kept _ _ _ _ _ _ c.self.invariant.frames c.args.number
    (rw c.held.ensures at c.in-None.ensures.none))))
