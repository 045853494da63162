use Rattle.std.proofs.Common.{◌∙◌, drop, sym, ap}
use Rattle.std.proofs.lemmas.Option.{same_Some, none-some}
use Rattle.codec.proofs.Told.{first, prev_told, no_prev_told, kind_stands}
use Rattle.codec.proofs.record.step_prev.Goals as goal

pub returns-in_default : goal.returns-in_default
returns-in_default c = λ r rest fits e. absurd
    (kind_stands r (drop c.args.at c.args.bytes.now) rest e c.in_default.ensures)

pub returns-then-kind-ne3 : goal.returns-then-kind-ne3
returns-then-kind-ne3 c = λ r rest fits e.
    no_prev_told r (drop c.args.at c.args.bytes.now) rest _ _ e c.in-Some.ensures c.if-kind-ne3.true

pub returns-in-Some-take_number : goal.returns-in-Some-take_number
returns-in-Some-take_number c = λ r rest fits e.
    same_Some _ _ (ap first (sym (rw c.left_at.ensures at c.in-Some-take_number.ensures))
    ∙ prev_told r (drop c.args.at c.args.bytes.now) rest _ _ fits e c.in-Some.ensures c.if-kind-ne3.false)

pub returns-in-None : goal.returns-in-None
returns-in-None c = λ r rest fits e. absurd
    (none-some _ (ap first (sym (rw c.left_at.ensures at c.in-None.ensures))
    ∙ prev_told r (drop c.args.at c.args.bytes.now) rest _ _ fits e c.in-Some.ensures c.if-kind-ne3.false))
