use Rattle.std.proofs.Common.{◌∙◌, Some, sym, ap, subst, arith}
use Rattle.codec.specs.Parted.{answer_in, SpellAnswer}
use Rattle.codec.proofs.Readers.{IsBytes}
use Rattle.codec.proofs.SpelledAnswers.{left_fits, left_is, told, spelled}
use Rattle.codec.proofs.spelled_answer.take_spelled.Goals as goal

pub overflow_sub-bytes : goal.overflow_sub-bytes
overflow_sub-bytes c =
    left_fits c.args.bytes.now c.in_ok-rest.rest.now _ (λ i. omega (arith, c.type_inv.bytes i)) c.in_ok-rest.ensures

pub invariant_of-result : goal.invariant_of-result
invariant_of-result c =
    subst SpellAnswer (sym c.split_at.ensures.front)
    (spelled c.args.bytes.now c.in_ok-rest.rest.now _ (λ i. omega (arith, c.type_inv.bytes i)) c.in_ok-rest.ensures)

pub returns : goal.returns
returns c =
    let bytes = c.args.bytes.now in
    let rest = c.in_ok-rest.rest.now in
    let fits : IsBytes bytes = λ i. omega (arith, c.type_inv.bytes i) in
    let same = ap answer_in c.split_at.ensures.front ∙ told bytes rest _ fits c.in_ok-rest.ensures in
    let left = c.split_at.ensures.back ∙ left_is bytes rest _ fits c.in_ok-rest.ensures in
    c.in_ok-rest.ensures ∙ λ i. Some (sym same i, sym left i)
