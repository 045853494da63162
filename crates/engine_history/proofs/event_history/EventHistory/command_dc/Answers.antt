use Rattle.std.proofs.Common.{◌≡◌, ◌++◌, [], ◌∷◌, List, ap, sym, ◌∙◌, subst}
use Rattle.node_sides.specs.node_laws.specs.declared.event.Event.{Event}
use Rattle.engine_history.specs.declared.place.Place.{Place}
use Rattle.engine_history.specs.declared.step.Step.{Step}
use Rattle.engine_history.specs.Commands.{commands, commands_it}
use Rattle.engine_history.specs.Kept.{PlacesKept}
use Rattle.engine_history.specs.Slots.{Slot, through}
use Rattle.engine_history.specs.Views.{View, Sees}
use Rattle.engine_history.proofs.Commanding.{commanded, commands_on, own_all}
use Rattle.engine_history.proofs.Entering.{places_heard}
use Rattle.engine_history.proofs.event_history.EventHistory.command_dc.Goals as goal

pub meet-requires-clause-name : goal.meet-requires-clause-name
meet-requires-clause-name g c = c.self.invariant.2.name ∙ sym c.operator.invariant

pub invariant_of-self : goal.invariant_of-self
invariant_of-self g c =
    let J = g.J.Naming in
    let s = c.self.inside in
    let token = c.enter_dc-token.result in
    let said = c.enter_dc-token.ensures in
    let kept = places_heard J.entries J.names s.lines s.places.items token c.self.invariant.0 said.shown
    (ap (λ (e : Step). e.caller) said.value ∙ c.requires.own) in
    let now : s.lines ++ token.value.step.value ∷ [] ≡ c.enter_dc-token.new.self =
    ap (λ (e : Step). s.lines ++ e ∷ []) said.value ∙ sym said.entered in (
      subst (λ (w : List Step × List (Place g.row.J.Denot)). PlacesKept J.entries J.names w.0 w.1)
          (λ i. (now i, sym c.hear_all.ensures.heard i)) kept,
      c.hear_all.ensures.count ∙ c.self.invariant.1,
      own_all J.names c.enter_dc-token.new.self c.meet.new.self
          (ap (λ (v : View). v.name) c.meet.ensures.cursor_end ∙ c.self.invariant.2.name)
          (ap (λ (v : View). v.steps) c.meet.ensures.cursor_end ∙ ap (λ (p : Slot). through p.value) c.again.ensures
          ∙ said.through ∙ sym said.entered),
    )

pub returns-clause-given : goal.returns-clause-given
returns-clause-given g c =
    let s = c.self.inside in
    let said = c.enter_dc-token.ensures in
    let sees : Sees commands_it c.operator.inside.cursor.steps s.lines =
    subst (λ (v : View). Sees commands_it v.steps s.lines) c.meet.ensures.same c.self.invariant.2.sees in
    let now : c.meet.new.cursor.steps ≡ s.lines ++ c.args.step.value ∷ [] =
    ap (λ (v : View). v.steps) (c.meet.ensures.cursor ∙ c.meet.ensures.cursor_end)
    ∙ ap (λ (p : Slot). through p.value) c.again.ensures ∙ said.through in
    subst (λ (given : List Event). commands c.meet.new.cursor.steps ≡ given ++ c.args.step.value.event ∷ [])
    c.operator.view_is
    (commanded c.operator.inside.cursor.steps s.lines c.meet.new.cursor.steps c.args.step.value _ sees (λ i.
    c.args.step.value.event) c.requires.command now)

pub returns-clause-first : goal.returns-clause-first
returns-clause-first g c =
    let s = c.self.inside in
    ap commands (sym c.self.view_is)
    ∙ commands_on c.operator.inside.cursor.steps s.lines
    (subst (λ (v : View). Sees commands_it v.steps s.lines) c.meet.ensures.same c.self.invariant.2.sees)
    ∙ c.operator.view_is
