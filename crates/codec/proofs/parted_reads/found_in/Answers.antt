use Rattle.std.proofs.Common.{rules, ◌∙◌, length, option_map, arith, sym, ap}
use Rattle.codec.specs.Reading.{value_at}
use Rattle.codec.proofs.Apart.{numbered_at, no_number, nothing_told, both_told}
use Rattle.codec.proofs.ApartReads.{found_told, nothing_found}
use Rattle.codec.proofs.Replies.{reply_not_empty}
use Rattle.codec.proofs.Told.{first}
use Rattle.codec.proofs.parted_reads.found_in.Goals as goal

pub returns-in_err-kind : goal.returns-in_err-kind
returns-in_err-kind c = λ r fits stands.
    absurd (omega (arith, reply_not_empty r, ap length stands, c.in_err-kind.ensures.cases))

pub returns-then-kind-ne19 : goal.returns-then-kind-ne19
returns-then-kind-ne19 c = λ r fits stands.
    nothing_found r c.in_ok-kind.kind.now c.in_ok-kind.rest.now (sym c.in_ok-kind.ensures.cases.0 ∙ stands)
    (search rules)

pub returns-in_err-read : goal.returns-in_err-read
returns-in_err-read c = λ r fits stands.
    ap (option_map _) c.from_residual-in_err-read.ensures
    ∙ ap first (sym (no_number value_at c.left_at.result.now c.in_err-read.ensures))
    ∙ ap (λ b. first (numbered_at value_at b)) c.left_at.ensures
    ∙ found_told r c.in_ok-kind.kind.now c.in_ok-kind.rest.now fits (sym c.in_ok-kind.ensures.cases.0 ∙ stands)
    (search rules)

pub returns-in_err-take_optional_value : goal.returns-in_err-take_optional_value
returns-in_err-take_optional_value c = λ r fits stands.
    ap (option_map _) c.from_residual-in_err-take_optional_value.ensures
    ∙ ap first (sym (nothing_told value_at c.left_at.result.now c.in_ok-read.rest.now c.in_ok-read.read
    c.in_ok-read.ensures c.in_err-take_optional_value.ensures))
    ∙ ap (λ b. first (numbered_at value_at b)) c.left_at.ensures
    ∙ found_told r c.in_ok-kind.kind.now c.in_ok-kind.rest.now fits (sym c.in_ok-kind.ensures.cases.0 ∙ stands)
    (search rules)

pub returns : goal.returns
returns c = λ r fits stands.
    ap first (sym (both_told value_at c.left_at.result.now c.in_ok-read.rest.now
    c.in_ok-take_optional_value.field-0.now c.in_ok-read.read c.take_optional_value.new.value
    c.in_ok-read.ensures c.in_ok-take_optional_value.ensures))
    ∙ ap (λ b. first (numbered_at value_at b)) c.left_at.ensures
    ∙ found_told r c.in_ok-kind.kind.now c.in_ok-kind.rest.now fits (sym c.in_ok-kind.ensures.cases.0 ∙ stands)
    (search rules)
