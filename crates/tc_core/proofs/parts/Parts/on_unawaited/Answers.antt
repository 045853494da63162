use Rattle.std.proofs.Common.{sym, ◌∙◌}
use Rattle.codec.specs.Given.{answer_given}
use Rattle.history.specs.declared.record.Record.TheVariants.{Answer}
use Rattle.tc_core.specs.Seen.{seen}
use Rattle.tc_core.proofs.KeepsTc.{keeps_passed}
use Rattle.tc_core.proofs.KeepsLost.{not_lacking, fits_lacking, keeps_lost_answer}
use Rattle.tc_undo.proofs.Numbers.{fits_numbers}
use Rattle.tc_core.proofs.parts.Parts.on_unawaited.Goals as goal

pub pass-requires-clause-kept : goal.pass-requires-clause-kept
pass-requires-clause-kept g c =
    let w = seen c.args.self.now in
    keeps_passed w c.args.number c.requires.taken
    (not_lacking w c.args.number (sym c.lacks.ensures ∙ c.if-not-lacks.true)) c.requires.kept

pub append_answer-requires : goal.append_answer-requires
append_answer-requires g c =
    let w = seen c.args.self.now in
    let a = answer_given c.in-Some.answer.now in
    let fits = fits_lacking w c.args.number (sym c.lacks.ensures ∙ c.if-not-lacks.false) in
    record {
      fits = fits;
      numbers = fits_numbers w.log (Answer c.args.number a) c.requires.kept.few.records fits;
    }

pub pass-requires-2-clause-kept : goal.pass-requires-2-clause-kept
pass-requires-2-clause-kept g c =
    let w = seen c.args.self.now in
    let a = answer_given c.in-Some.answer.now in
    let appended = c.in_ok-append_answer.ensures.appended in
    rw appended.log
    (keeps_lost_answer w c.requires.kept c.args.number a (sym c.lacks.ensures ∙ c.if-not-lacks.false)
    c.requires.unawaited c.requires.taken appended.unspent)
