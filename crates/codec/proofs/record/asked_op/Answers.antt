use Rattle.std.proofs.Common.{rules, ◌∙◌, drop, sym, ap}
use Rattle.codec.proofs.Told.{inner, inner_first, op_told, inverse_told, asks_nothing_told, kind_stands}
use Rattle.codec.proofs.record.asked_op.Goals as goal

pub returns-in_err-kind : goal.returns-in_err-kind
returns-in_err-kind c = λ r rest fits e. absurd
    (kind_stands r (drop c.args.at c.args.bytes.now) rest e c.in_err-kind.ensures)

pub returns-in_err-take_op-in-3 : goal.returns-in_err-take_op-in-3
returns-in_err-take_op-in-3 c = λ r rest fits e.
    c.from_residual-in_err-take_op-in-3.ensures ∙ ap inner (sym (rw c.left_at.ensures at c.in_err-take_op-in-3.ensures))
    ∙ inner_first _
    ∙ op_told r (drop c.args.at c.args.bytes.now) rest _ _ fits e c.in_ok-kind.ensures c.in-3.is

pub returns-in_ok-take_op-in-3 : goal.returns-in_ok-take_op-in-3
returns-in_ok-take_op-in-3 c = λ r rest fits e.
    ap inner (sym (rw c.left_at.ensures at c.in_ok-take_op-in-3.ensures)) ∙ inner_first _
    ∙ op_told r (drop c.args.at c.args.bytes.now) rest _ _ fits e c.in_ok-kind.ensures c.in-3.is

pub returns-in_err-take_optional_op-in-5 : goal.returns-in_err-take_optional_op-in-5
returns-in_err-take_optional_op-in-5 c = λ r rest fits e.
    c.from_residual-in_err-take_optional_op-in-5.ensures
    ∙ ap inner (sym (rw c.left_at-in-5.ensures at c.in_err-take_optional_op-in-5.ensures))
    ∙ inverse_told r (drop c.args.at c.args.bytes.now) rest _ _ fits e c.in_ok-kind.ensures c.in-5.is

pub returns-in_ok-take_optional_op-in-5 : goal.returns-in_ok-take_optional_op-in-5
returns-in_ok-take_optional_op-in-5 c = λ r rest fits e.
    ap inner (sym (rw c.left_at-in-5.ensures at c.in_ok-take_optional_op-in-5.ensures))
    ∙ inverse_told r (drop c.args.at c.args.bytes.now) rest _ _ fits e c.in_ok-kind.ensures c.in-5.is

pub returns-in_default : goal.returns-in_default
returns-in_default c = λ r rest fits e.
    asks_nothing_told r (drop c.args.at c.args.bytes.now) rest _ _ e c.in_ok-kind.ensures
    (search rules) (search rules)
