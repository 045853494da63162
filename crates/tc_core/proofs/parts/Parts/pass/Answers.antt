use Rattle.std.proofs.Common.{sym, ap, ◌∙◌, subst}
use Rattle.tc_core.specs.declared.phase.Phase.{Phase}
use Rattle.tc_core.specs.declared.phase.Phase.TheVariants.{Undoing}
use Rattle.tc_core.specs.Replies.{next_phase}
use Rattle.tc_core.specs.Kept.{IsTc}
use Rattle.tc_core.specs.Seen.{seen}
use Rattle.tc_core.proofs.parts.Parts.pass.Goals as goal

pub returns-in-Redoing-clause-kept : goal.returns-in-Redoing-clause-kept
returns-in-Redoing-clause-kept g c =
    let w = seen c.args.self.now in
    let P : Phase → Type 0 = λ p. IsTc (record w { phase = p }) in
    subst P (ap (λ p. next_phase p c.args.number) c.in-Redoing.is) c.requires.kept

pub returns-in-Undoing-clause-kept : goal.returns-in-Undoing-clause-kept
returns-in-Undoing-clause-kept g c =
    let w = seen c.args.self.now in
    let P : Phase → Type 0 = λ p. IsTc (record w { phase = p }) in
    subst P (ap (λ p. next_phase p c.args.number) c.in-Undoing.is ∙ ap Undoing (sym c.left_waiting-waiting.ensures))
    c.requires.kept
