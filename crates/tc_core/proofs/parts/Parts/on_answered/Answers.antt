use Rattle.std.proofs.Common.{◌≡◌, ap, refl, sym, true, Some, ◌∙◌}
use Rattle.std.specs.Option.{option_copied}
use Rattle.codec.specs.Given.{answer_given}
use Rattle.tc_core.specs.declared.change.Change.TheVariants.{Answered}
use Rattle.tc_core.specs.Changes.{answered}
use Rattle.tc_core.specs.Replies.{awaiting, takes}
use Rattle.tc_core.specs.Seen.{seen}
use Rattle.tc_core.proofs.KeepsTc.{fits_answer, keeps_answer, keeps_passed, newly_answered, awaited_is}
use Rattle.history.specs.declared.record.Record.TheVariants.{Answer}
use Rattle.tc_undo.proofs.Numbers.{fits_numbers}
use Rattle.tc_core.proofs.Refused.{happened}
use Rattle.tc_core.proofs.parts.Parts.on_answered.Goals as goal

pub append_answer-requires : goal.append_answer-requires
append_answer-requires g c =
    let w = seen c.args.self.now in
    let a = answer_given c.in-Some-answer.answer.now in
    let o = c.in-Some.opened.now in
    let at = awaited_is w c.args.number o (sym c.awaiting.ensures ∙ ap option_copied c.in-Some.is) in
    let fits = fits_answer w o c.args.number a c.requires at.0 at.1 in
    record {
      fits = fits;
      numbers = fits_numbers w.log (Answer c.args.number a) c.requires.few.records fits;
    }

pub pass-requires-clause-kept : goal.pass-requires-clause-kept
pass-requires-clause-kept g c =
    let w = seen c.args.self.now in
    let a = answer_given c.in-Some-answer.answer.now in
    let o = c.in-Some.opened.now in
    let at = awaited_is w c.args.number o (sym c.awaiting.ensures ∙ ap option_copied c.in-Some.is) in
    let appended = c.in_ok-append_answer.ensures.appended in
    rw (
      happened w o.txn o Answered c.change.new.self (record { is = at.0; number = refl }) c.change.ensures,
      appended.log,
    )
    (keeps_passed (answered w o c.args.number a) c.args.number
    (sym c.takes.ensures ∙ c.if-not-takes.false)
    (λ q asks. newly_answered w.log c.args.number a)
    (keeps_answer w o c.args.number a c.requires at.0 at.1 appended.unspent))

pub returns-clause-gives : goal.returns-clause-gives
returns-clause-gives g c =
    let w = seen c.args.self.now in
    let a = answer_given c.in-Some-answer.answer.now in
    let o = c.in-Some.opened.now in
    let is : awaiting w c.args.number ≡ Some o = sym c.awaiting.ensures ∙ ap option_copied c.in-Some.is in
    let at = awaited_is w c.args.number o is in
    let takes : takes w.session w.phase c.args.number ≡ true = sym c.takes.ensures ∙ c.if-not-takes.false in
    let appended = c.in_ok-append_answer.ensures.appended in
    rw (
      is,
      c.in-Some-answer.is,
      takes,
      appended.unspent,
      c.pass.ensures.passed,
      appended.log,
      happened w o.txn o Answered c.change.new.self (record { is = at.0; number = refl }) c.change.ensures,
      c.heard_of-heard.ensures a,
    )
    (refl, record { told = refl; left = refl })
