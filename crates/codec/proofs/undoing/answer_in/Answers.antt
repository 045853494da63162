use Rattle.codec.proofs.Asked.{some_body}
use Rattle.codec.proofs.UndoBytes.{answer_told, no_answer_told}
use Rattle.codec.proofs.undoing.answer_in.Goals as goal

pub returns-in_err-kind-clause-held : goal.returns-in_err-kind-clause-held
returns-in_err-kind-clause-held c = λ r stands. absurd
    (some_body r c.args.body.now stands c.in_err-kind.ensures.cases)

pub returns-then-kind-eq4-clause-held : goal.returns-then-kind-eq4-clause-held
returns-then-kind-eq4-clause-held c = λ r stands. rw c.left_at.ensures
    (answer_told r c.args.body.now c.in_ok-kind.kind.now c.in_ok-kind.rest.now c.in_ok-kind.ensures.cases.0 stands
    c.if-kind-eq4.true)

pub returns-else-kind-eq4-clause-held : goal.returns-else-kind-eq4-clause-held
returns-else-kind-eq4-clause-held c = λ r stands.
    no_answer_told r c.args.body.now c.in_ok-kind.kind.now c.in_ok-kind.rest.now c.in_ok-kind.ensures.cases.0 stands
    c.if-kind-eq4.false
