use Rattle.std.proofs.Common.{rules, ◌∙◌, drop, sym, ap}
use Rattle.std.proofs.lemmas.Option.{same_Some, none-some}
use Rattle.codec.proofs.Told.{first, itself_told, next_told, nothing_left_told, kind_stands}
use Rattle.codec.proofs.record.left_to_undo.Goals as goal

pub returns-in_default : goal.returns-in_default
returns-in_default c = λ r rest fits e. absurd
    (kind_stands r (drop c.args.at c.args.bytes.now) rest e c.in_default.ensures)

pub returns-in-3 : goal.returns-in-3
returns-in-3 c = λ r rest fits e.
    itself_told r (drop c.args.at c.args.bytes.now) rest _ _ e c.in-Some.ensures c.in-3.is c.args.number

pub returns-in-Some-take_number : goal.returns-in-Some-take_number
returns-in-Some-take_number c = λ r rest fits e.
    same_Some _ _ (ap first (sym (rw c.left_at.ensures at c.in-Some-take_number.ensures))
    ∙ next_told r (drop c.args.at c.args.bytes.now) rest _ _ fits e c.in-Some.ensures c.in-5.is c.args.number)

pub returns-in-None : goal.returns-in-None
returns-in-None c = λ r rest fits e. absurd
    (none-some _ (ap first (sym (rw c.left_at.ensures at c.in-None.ensures))
    ∙ next_told r (drop c.args.at c.args.bytes.now) rest _ _ fits e c.in-Some.ensures c.in-5.is c.args.number))

pub returns-in_default-kind : goal.returns-in_default-kind
returns-in_default-kind c = λ r rest fits e.
    nothing_left_told r (drop c.args.at c.args.bytes.now) rest _ _ e c.in-Some.ensures
    (search rules) (search rules) c.args.number
