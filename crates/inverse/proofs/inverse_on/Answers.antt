use Rattle.std.proofs.Common.{◌≡◌, ℕ, Some, sym, ap, ◌∙◌, arith}
use Rattle.record_key.specs.declared.op.Op.TheVariants.{Add}
use Rattle.record_key.specs.Amounts.{negated}
use Rattle.inverse.specs.Inverse.{undo_of}
use Rattle.inverse.proofs.inverse_on.Goals as goal

pub returns-in-Added : goal.returns-in-Added
unfolding negated
returns-in-Added c =
    let amount : c.wrapping_neg.result ≡ negated c.in-Added.amount =
    omega (arith, c.wrapping_neg.ensures, c.wrapping_neg.type_inv) in
    ap (λ k. Some (Add k c.wrapping_neg.result)) c.copied-key.ensures
    ∙ ap (λ (x : ℕ). Some (Add c.args.key.now x)) amount ∙ sym (ap (undo_of c.args.key.now) c.in-Added.is)
