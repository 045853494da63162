use Rattle.std.proofs.Common.{arith}
use Rattle.codec.proofs.UndoBytes.{some_length, key_there, key_taken}
use Rattle.codec.proofs.undoing.key_bytes.Goals as goal

pub returns-in_default-clause-key : goal.returns-in_default-clause-key
returns-in_default-clause-key c = λ o whole. absurd
    (some_length o c.args.op.now c.left_at-rest.result.now whole c.left_at-rest.ensures c.in_default.ensures.cases)

pub returns-then-end-rest-clause-key : goal.returns-then-end-rest-clause-key
returns-then-end-rest-clause-key c = λ o whole.
    key_taken o c.args.op.now c.left_at-rest.result.now whole c.left_at-rest.ensures _ _ c.in-Some.ensures.cases.0

pub returns-else-end-rest-clause-key : goal.returns-else-end-rest-clause-key
returns-else-end-rest-clause-key c = λ o whole. absurd
    (key_there o c.args.op.now c.left_at-rest.result.now whole c.left_at-rest.ensures _ _ c.in-Some.ensures.cases.0
    (omega (arith, c.if-end-rest.false)))
