use Rattle.std.proofs.Common.{◌≡◌, ◌∙◌, sym, ap, arith}
use Rattle.std.proofs.lemmas.Option.{same_Some, none-some}
use Rattle.record_key.specs.Amounts.{negated}
use Rattle.codec.specs.Fields.{number}
use Rattle.codec.proofs.Told.{first}
use Rattle.codec.proofs.UndoBytes.{amount_read}
use Rattle.codec.proofs.undoing.negated_bytes.Goals as goal

pub returns-in_default : goal.returns-in_default
returns-in_default c = λ x fits is. absurd
    (none-some _ (sym (ap first c.in_default.ensures) ∙ amount_read c.args.amount.now x fits is))

pub returns : goal.returns
unfolding number negated
returns c = λ x fits is.
    let read : c.in-Some.amount ≡ x =
    same_Some _ _ (sym (ap first c.in-Some.ensures) ∙ amount_read c.args.amount.now x fits is) in
    let amount : c.wrapping_neg.result ≡ negated x =
    omega (arith, read, c.wrapping_neg.ensures, c.wrapping_neg.type_inv) in
    c.write_u64.ensures ∙ ap number amount
