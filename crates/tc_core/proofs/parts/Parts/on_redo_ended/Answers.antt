use Rattle.std.proofs.Common.{ap, ◌∙◌}
use Rattle.tc_core.specs.declared.phase.Phase.TheVariants.{Redoing}
use Rattle.tc_core.specs.Seen.{seen}
use Rattle.tc_core.proofs.KeepsLost.{keeps_redo_ended}
use Rattle.tc_core.proofs.parts.Parts.on_redo_ended.Goals as goal

pub returns-clause-kept : goal.returns-clause-kept
returns-clause-kept g c =
    rw c.after_redo-self.ensures
    (keeps_redo_ended (seen c.args.self.now) c.requires.kept c.in-Redoing.next
    (c.in-Redoing.is ∙ ap (Redoing c.in-Redoing.next) c.if-not-ending.false))
