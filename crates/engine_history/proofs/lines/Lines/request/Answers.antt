use Rattle.std.proofs.Common.{◌≡◌, None, ap, sym, ◌∙◌, List, subst}
use Rattle.node_sides.specs.node_laws.specs.Messages.{message_at}
use Rattle.engine_history.specs.declared.step.Step.{Step}
use Rattle.engine_history.specs.Kept.{IsSentBy}
use Rattle.engine_history.specs.Slots.{Slot}
use Rattle.engine_history.specs.Steps.{requests}
use Rattle.engine_history.proofs.Entering.{on_ok, on_err, request_found}
use Rattle.engine_history.proofs.Lists.{request_none}
use Rattle.engine_history.proofs.lines.Lines.request.Goals as goal

pub returns-clause-shown : goal.returns-clause-shown
returns-clause-shown g c =
    let s = c.self.inside in
    on_ok c.numbered.result
    (λ p at. (request_found g.J.Naming.start g.J.Naming.entries g.J.Naming.names s.tokens.items s.asked.items s.given.items s.tc s.dc
    c.args.number p c.self.invariant (ap (λ (ms : List Slot). message_at ms c.args.number)
    (sym c.deref.ensures.value) ∙ at)).0)
    c.numbered.ensures.found

pub returns-clause-sent : goal.returns-clause-sent
returns-clause-sent g c =
    let s = c.self.inside in
    on_ok c.numbered.result
    (λ p at. subst (λ (es : List Step). IsSentBy (requests es) c.args.number p.value.step.value.sent) c.self.view_is
    (request_found g.J.Naming.start g.J.Naming.entries g.J.Naming.names s.tokens.items s.asked.items s.given.items s.tc s.dc
    c.args.number p c.self.invariant (ap (λ (ms : List Slot). message_at ms c.args.number)
    (sym c.deref.ensures.value) ∙ at)).1)
    c.numbered.ensures.found

pub returns-clause-spelled : goal.returns-clause-spelled
returns-clause-spelled g c =
    let s = c.self.inside in
    on_ok c.numbered.result
    (λ p at. (request_found g.J.Naming.start g.J.Naming.entries g.J.Naming.names s.tokens.items s.asked.items s.given.items s.tc s.dc
    c.args.number p c.self.invariant (ap (λ (ms : List Slot). message_at ms c.args.number)
    (sym c.deref.ensures.value) ∙ at)).2)
    c.numbered.ensures.found

pub returns-clause-none : goal.returns-clause-none
returns-clause-none g c =
    let s = c.self.inside in
    on_err c.numbered.result
    (λ at. subst (λ (es : List Step). message_at (requests es) c.args.number ≡ None) c.self.view_is
    (request_none s.tokens.items c.args.number (ap (λ (ms : List Slot). message_at ms c.args.number)
    (sym (c.deref.ensures.value ∙ c.self.invariant.asked_are)) ∙ at)))
    c.numbered.ensures.none
