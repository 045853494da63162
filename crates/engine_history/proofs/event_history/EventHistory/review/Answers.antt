use Rattle.std.proofs.Common.{ap, sym, ◌∙◌, subst}
use Rattle.engine_history.specs.Commands.{commands, commands_it}
use Rattle.engine_history.specs.Views.{View, Sees}
use Rattle.engine_history.proofs.Commanding.{commands_on, own_all}
use Rattle.engine_history.proofs.event_history.EventHistory.review.Goals as goal

pub meet-requires-clause-name : goal.meet-requires-clause-name
meet-requires-clause-name g c = c.self.invariant.2.name ∙ sym c.operator.invariant

pub invariant_of-self : goal.invariant_of-self
invariant_of-self g c =
    let J = g.J.Naming in let s = c.self.inside in (
      c.self.invariant.0,
      c.self.invariant.1,
      own_all J.names s.lines c.meet.new.self
          (ap (λ (v : View). v.name) c.meet.ensures.cursor_end ∙ c.self.invariant.2.name)
          (ap (λ (v : View). v.steps) c.meet.ensures.cursor_end ∙ c.last.ensures.seen),
    )

pub returns-clause-operator : goal.returns-clause-operator
returns-clause-operator g c =
    let s = c.self.inside in
    let sees : Sees commands_it c.operator.inside.cursor.steps s.lines =
    subst (λ (v : View). Sees commands_it v.steps s.lines) c.meet.ensures.same c.self.invariant.2.sees in
    ap commands (ap (λ (v : View). v.steps) (c.meet.ensures.cursor ∙ c.meet.ensures.cursor_end) ∙ c.last.ensures.seen)
    ∙ commands_on c.operator.inside.cursor.steps s.lines sees ∙ c.operator.view_is

pub returns-clause-all : goal.returns-clause-all
returns-clause-all g c =
    let s = c.self.inside in
    ap commands (sym c.self.view_is)
    ∙ commands_on c.operator.inside.cursor.steps s.lines
    (subst (λ (v : View). Sees commands_it v.steps s.lines) c.meet.ensures.same c.self.invariant.2.sees)
    ∙ c.operator.view_is
