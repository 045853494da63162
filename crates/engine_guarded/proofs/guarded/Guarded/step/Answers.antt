use Rattle.std.proofs.Common.{◌∙◌, List, None, ap, sym, subst, length}
use Rattle.std.proofs.lemmas.List.{length-map}
use Rattle.std.specs.List.{AllByRecursion}
use Rattle.engine_history.specs.declared.step.Step.{Step}
use Rattle.engine_history.specs.node_laws.specs.Node.{NodeView}
use Rattle.engine_history.specs.node_laws.specs.Stepping.{IsStep}
use Rattle.engine_history.specs.Steps.{node_at}
use Rattle.engine_guarded.specs.declared.place.Place.{Place}
use Rattle.engine_guarded.specs.Found.{IsOwned}
use Rattle.engine_guarded.specs.Places.{PlacesKept, place_after}
use Rattle.engine_guarded.specs.Running.{PassesFrom, made}
use Rattle.engine_guarded.proofs.Lows.{announced_next}
use Rattle.engine_guarded.proofs.Places.{places_stepped}
use Rattle.engine_guarded.proofs.Running.{owned_step, passes_snoc}
use Rattle.engine_guarded.proofs.guarded.Guarded.step.Goals as goal

pub invariant_of-self : goal.invariant_of-self
invariant_of-self g c =
    let J = g.J.Naming in
    let k = c.self.invariant in
    let es = c.self.inside.steps.items in
    let e = c.args.event.now in
    let o = c.stepped.new.out in
    let old = c.self.inside.world.value in
    let new = c.stepped.new.world in
    let f = place_after (made None e o) in
    let stepped : IsStep old e o new =
    subst (λ (w : NodeView). IsStep w e o new) c.deref_mut.ensures.value c.stepped.ensures.node in
    let all = sym c.with_step.ensures in
    record {
      passes =
          subst (λ (xs : List Step). PassesFrom J.start xs new) all
          (passes_snoc (node_at J.start) es old None e o new k.passes stepped);
      places_are =
          subst (λ (w : List Step × List Place). PlacesKept J.entries J.names w.0 w.1)
          (λ i. (all i, sym c.hear_all.ensures.heard i))
          (places_stepped J.entries J.names es c.self.inside.places.items e o k.places_are);
      count =
          ap (λ (ps : List Place). length ps) c.hear_all.ensures.heard
          ∙ length-map c.self.inside.places.items f ∙ k.count;
      owned = subst (AllByRecursion (IsOwned J.sessions)) all (owned_step J.sessions es e o k.owned c.requires.plain);
      low_is = c.stepped.ensures.low ∙ announced_next es (made None e o) k.low_is all;
      low_stable = c.stepped.ensures.stable;
    }
