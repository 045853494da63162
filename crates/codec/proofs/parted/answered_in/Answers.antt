use Rattle.std.proofs.Common.{rules, ◌∙◌, length, option_map, arith, sym, ap}
use Rattle.codec.specs.Given.{answer_given}
use Rattle.codec.specs.Reading.{answer_at}
use Rattle.codec.proofs.Apart.{numbered_at, no_number, nothing_told, both_told, answer_told, nothing_answered}
use Rattle.codec.proofs.Replies.{reply_not_empty}
use Rattle.codec.proofs.Told.{first}
use Rattle.codec.proofs.parted.answered_in.Goals as goal

pub returns-in_err-kind : goal.returns-in_err-kind
returns-in_err-kind c = λ r fits stands.
    absurd (omega (arith, reply_not_empty r, ap length stands, c.in_err-kind.ensures.cases))

pub returns-then-kind-ne18 : goal.returns-then-kind-ne18
returns-then-kind-ne18 c = λ r fits stands.
    nothing_answered r c.in_ok-kind.kind.now c.in_ok-kind.rest.now (sym c.in_ok-kind.ensures.cases.0 ∙ stands)
    (search rules)

pub returns-in_err-number : goal.returns-in_err-number
returns-in_err-number c = λ r fits stands.
    ap (option_map _) c.from_residual-in_err-number.ensures
    ∙ ap first (sym (no_number answer_at c.left_at.result.now c.in_err-number.ensures))
    ∙ ap (λ b. first (numbered_at answer_at b)) c.left_at.ensures
    ∙ answer_told r c.in_ok-kind.kind.now c.in_ok-kind.rest.now fits (sym c.in_ok-kind.ensures.cases.0 ∙ stands)
    (search rules)

pub returns-in_err-answer : goal.returns-in_err-answer
returns-in_err-answer c = λ r fits stands.
    ap (option_map _) c.from_residual-in_err-answer.ensures
    ∙ ap first (sym (nothing_told answer_at c.left_at.result.now c.in_ok-number.rest.now c.in_ok-number.number
    c.in_ok-number.ensures c.in_err-answer.ensures))
    ∙ ap (λ b. first (numbered_at answer_at b)) c.left_at.ensures
    ∙ answer_told r c.in_ok-kind.kind.now c.in_ok-kind.rest.now fits (sym c.in_ok-kind.ensures.cases.0 ∙ stands)
    (search rules)

pub returns : goal.returns
returns c = λ r fits stands.
    ap first (sym (both_told answer_at c.left_at.result.now c.in_ok-number.rest.now _ c.in_ok-number.number
    (option_map answer_given c.in_ok-answer.answer) c.in_ok-number.ensures c.in_ok-answer.ensures))
    ∙ ap (λ b. first (numbered_at answer_at b)) c.left_at.ensures
    ∙ answer_told r c.in_ok-kind.kind.now c.in_ok-kind.rest.now fits (sym c.in_ok-kind.ensures.cases.0 ∙ stands)
    (search rules)
