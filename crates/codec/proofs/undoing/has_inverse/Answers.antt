use Rattle.codec.proofs.UndoBytes.{some_answer, undone_below, undone_above}
use Rattle.codec.proofs.undoing.has_inverse.Goals as goal

pub returns-then-kind-lt6 : goal.returns-then-kind-lt6
returns-then-kind-lt6 c = λ k a is.
    undone_below k a c.args.answer.now _ _ c.in-Some.ensures.cases.0 is c.if-kind-lt6.true

pub returns-else-kind-lt6 : goal.returns-else-kind-lt6
returns-else-kind-lt6 c = λ k a is.
    undone_above k a c.args.answer.now _ _ c.in-Some.ensures.cases.0 is c.if-kind-lt6.false

pub returns-in-None : goal.returns-in-None
returns-in-None c = λ k a is. absurd (some_answer a c.args.answer.now is c.in-None.ensures.cases)
