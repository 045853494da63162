use Rattle.std.proofs.Common.{◌≡◌, ◌++◌, [], ◌∷◌, List, ap, sym, ◌∙◌, subst}
use Rattle.engine_history.specs.declared.place.Place.{Place}
use Rattle.engine_history.specs.declared.step.Step.{Step}
use Rattle.engine_history.specs.Commands.{OwnKept}
use Rattle.engine_history.specs.Kept.{PlacesKept}
use Rattle.engine_history.proofs.Commanding.{own_mild}
use Rattle.engine_history.proofs.Entering.{places_heard}
use Rattle.engine_history.proofs.event_history.EventHistory.enter_tc.Goals as goal

pub invariant_of-self : goal.invariant_of-self
invariant_of-self g c =
    let J = g.J.Naming in
    let s = c.self.inside in
    let token = c.enter_tc-token.result in
    let said = c.enter_tc-token.ensures in
    let kept = places_heard J.entries J.names s.lines s.places.items token c.self.invariant.0 said.shown
    (ap (λ (e : Step). e.caller) said.value ∙ c.requires.own) in
    let now : s.lines ++ token.value.step.value ∷ [] ≡ c.enter_tc-token.new.self =
    ap (λ (e : Step). s.lines ++ e ∷ []) said.value ∙ sym said.entered in (
      subst (λ (w : List Step × List (Place g.row.J.Denot)). PlacesKept J.entries J.names w.0 w.1)
          (λ i. (now i, sym c.hear_all.ensures.heard i)) kept,
      c.hear_all.ensures.count ∙ c.self.invariant.1,
      subst (λ (es : List Step). OwnKept J.names es s.own) (sym said.entered)
          (own_mild J.names s.lines s.own c.args.step.value c.requires.mild c.self.invariant.2),
    )
