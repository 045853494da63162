use Rattle.std.proofs.Common.{List, ap, sym, ◌∙◌, subst}
use Rattle.engine_history.specs.declared.step.Step.{Step}
use Rattle.engine_history.specs.Kept.{PlacesKept}
use Rattle.engine_history.specs.Views.{View}
use Rattle.engine_history.proofs.Commanding.{own_all}
use Rattle.engine_history.proofs.event_history.EventHistory.new.Goals as goal

pub invariant_of-result : goal.invariant_of-result
invariant_of-result g c =
    let J = g.J.Naming in
    let places = c.args.places.items in (
      subst (λ (es : List Step). PlacesKept J.entries J.names es places) (sym c.requires.empty) c.requires.places,
      c.requires.count,
      own_all J.names c.args.lines c.new.result (ap (λ (v : View). v.name) c.new.ensures ∙ c.requires.own.0)
          (ap (λ (v : View). v.steps) c.new.ensures ∙ sym c.requires.empty),
    )
