use Rattle.tc_core.proofs.parts.Parts.resend_undo.Goals as goal

pub perform-requires : goal.perform-requires
perform-requires g c = let due = c.requires.kept.lost.due c.args.number c.requires.undoing in
    record { op = due.op; requested = due.requests }
