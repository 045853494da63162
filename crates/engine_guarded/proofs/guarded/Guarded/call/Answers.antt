use Rattle.std.proofs.Common.{◌≡◌, ◌<◌, ◌∙◌, List, Some, ap, sym, subst, map, set, length, slice_get, refl, arith}
use Rattle.std.proofs.lemmas.List.{length-map, length-set}
use Rattle.std.proofs.lemmas.Option.{slice_get_read}
use Rattle.std.specs.List.{AllByRecursion}
use Rattle.engine_agreement.specs.Agreed.{Agreed}
use Rattle.engine_history.specs.declared.step.Step.{Step}
use Rattle.engine_history.specs.node_laws.specs.Node.{NodeView}
use Rattle.engine_history.specs.node_laws.specs.Stepping.{IsStep}
use Rattle.engine_history.specs.Steps.{node_at}
use Rattle.engine_guarded.specs.declared.place.Place.{Place}
use Rattle.engine_guarded.specs.Callers.{CallerView}
use Rattle.engine_guarded.specs.Found.{IsOwned}
use Rattle.engine_guarded.specs.Places.{PlacesKept, place_after}
use Rattle.engine_guarded.specs.Running.{PassesFrom, made}
use Rattle.engine_guarded.proofs.Lows.{announced_next}
use Rattle.engine_guarded.proofs.Places.{own_place, places_called}
use Rattle.engine_guarded.proofs.Running.{owned_call, passes_snoc}
use Rattle.engine_guarded.proofs.guarded.Guarded.call.Goals as goal

pub set-requires : goal.set-requires
set-requires g c =
    let J = g.J.Naming in
    let n = c.caller.inside.number in
    let ps = c.self.inside.places.items in
    let e = c.args.event.now in
    let o = c.stepped.new.out in
    let f = place_after (made (Some n) e o) in
    let qs = c.hear_all.new.places.items in
    let p = c.index_mut-place.result.now in
    let within = c.caller.invariant.within in
    let count = ap (λ (xs : List Place). length xs) c.hear_all.ensures.heard ∙ length-map ps f ∙ c.self.invariant.count in
    let less : n < length qs = omega (arith, within, count) in
    let there = slice_get_read qs (length qs) n p refl less c.index_mut-place.ensures.value in
    let at : slice_get (map f ps) n ≡ Some p =
    subst (λ (xs : List Place). slice_get xs n ≡ Some p) c.hear_all.ensures.heard there in
    let own = own_place J.entries J.names c.self.inside.steps.items ps n e o p c.self.invariant.places_are at in
    record { name = ap (λ (x : Place). x.far_end.name) own.2 ∙ own.1.name ∙ sym c.caller.invariant.name }

pub invariant_of-self : goal.invariant_of-self
invariant_of-self g c =
    let J = g.J.Naming in
    let k = c.self.invariant in
    let n = c.caller.inside.number in
    let es = c.self.inside.steps.items in
    let ps = c.self.inside.places.items in
    let e = c.args.event.now in
    let o = c.stepped.new.out in
    let new = c.stepped.new.world in
    let f = place_after (made (Some n) e o) in
    let qs = c.hear_all.new.places.items in
    let p = c.index_mut-place.result.now in
    let within = c.caller.invariant.within in
    let count = ap (λ (xs : List Place). length xs) c.hear_all.ensures.heard ∙ length-map ps f ∙ k.count in
    let less : n < length qs = omega (arith, within, count) in
    let there = slice_get_read qs (length qs) n p refl less c.index_mut-place.ensures.value in
    let at : slice_get (map f ps) n ≡ Some p =
    subst (λ (xs : List Place). slice_get xs n ≡ Some p) c.hear_all.ensures.heard there in
    let r : Place = record p { far_end = c.set.new.self } in
    let stepped : IsStep c.self.inside.world.value e o new =
    subst (λ (w : NodeView). IsStep w e o new) c.deref_mut.ensures.value c.stepped.ensures.node in
    let all = sym c.with_call.ensures in
    record {
      passes =
          subst (λ (xs : List Step). PassesFrom J.start xs new) all
          (passes_snoc (node_at J.start) es c.self.inside.world.value (Some n) e o new k.passes stepped);
      places_are =
          subst (λ (w : List Step × List Place). PlacesKept J.entries J.names w.0 (set w.1 n r))
          (λ i. (all i, sym c.hear_all.ensures.heard i))
          (places_called J.entries J.names es ps n e o p r p.far_end.name k.places_are at refl
          (ap (λ (b : Agreed). record p { far_end = b }) c.set.ensures.far_end));
      count = length-set qs n r ∙ count;
      owned =
          subst (AllByRecursion (IsOwned J.sessions)) all
          (owned_call J.sessions es n e o k.owned
          (λ is. ap (λ (v : CallerView). v.number) c.caller.view_is ∙ c.requires.owned is));
      low_is = c.stepped.ensures.low ∙ announced_next es (made (Some n) e o) k.low_is all;
      low_stable = c.stepped.ensures.stable;
    }
