use Rattle.std.proofs.Common.{List, ap, sym, subst, inl, arith}
use Rattle.std.specs.List.{AllByRecursion}
use Rattle.engine_history.specs.Marking.{announced}
use Rattle.engine_history.specs.declared.step.Step.{Step}
use Rattle.engine_guarded.specs.Found.{IsOwned}
use Rattle.engine_guarded.specs.Places.{PlacesKept}
use Rattle.engine_guarded.specs.Running.{PassesFrom}
use Rattle.engine_guarded.proofs.guarded.Guarded.new.Goals as goal

pub invariant_of-result : goal.invariant_of-result
invariant_of-result g c =
    let J = g.J.Naming in
    let none = sym c.new.ensures in
    record {
      passes = subst (λ (es : List Step). PassesFrom J.start es c.args.world.value) none (inl c.requires.start);
      places_are =
          subst (λ (es : List Step). PlacesKept J.entries J.names es c.args.places.items) none c.requires.places;
      count = c.requires.count;
      owned = subst (λ (es : List Step). AllByRecursion (IsOwned J.sessions) es) none tt;
      low_is = ap announced none;
      low_stable = omega arith;
    }
