use Rattle.std.proofs.Common.{◌≡◌, ◌≤◌, ◌∙◌, ℕ, false, List, Some, ap, slice_get, sym, subst}
use Rattle.engine_history.specs.node_laws.specs.Forgetting.{without_messages}
use Rattle.engine_history.specs.node_laws.specs.Node.{NodeView}
use Rattle.engine_history.specs.Steps.{node_at}
use Rattle.engine_guarded.specs.Found.{Found}
use Rattle.engine_guarded.specs.Quiet.{AreQuiet, waits}
use Rattle.engine_guarded.specs.declared.place.Place.{Place}
use Rattle.engine_guarded.specs.Running.{PassesFrom}
use Rattle.engine_guarded.proofs.Quiet.{all_quiet}
use Rattle.engine_guarded.proofs.Running.{passes_forgotten}
use Rattle.engine_guarded.proofs.guarded.Guarded.forget.Goals as goal

pub invariant_of-self-2 : goal.invariant_of-self-2
invariant_of-self-2 g c =
    let J = g.J.Naming in
    let k = c.self.invariant in
    let es = c.self.inside.steps.items in
    let left = c.forget.ensures ∙ ap without_messages c.deref_mut.ensures.value in
    record {
      passes =
          subst (λ (w : NodeView). PassesFrom J.start es w) (sym left)
          (passes_forgotten (node_at J.start) es c.self.inside.world.value k.passes);
      places_are = k.places_are;
      count = k.count;
      owned = k.owned;
      low_is = k.low_is;
      low_stable = subst (λ (w : NodeView). c.self.inside.low ≤ w.tc.stable) (sym left) k.low_stable;
    }

pub returns-clause-quiet : goal.returns-clause-quiet
returns-clause-quiet g c is =
    let J = g.J.Naming in
    let k = c.self.invariant in
    let ps = c.self.inside.places.items in
    let none =
    subst (λ (xs : List Place). (n : ℕ) (p : Place) → slice_get xs n ≡ Some p → waits p ≡ false) c.as_slice.ensures.value
    (c.are_quiet.ensures c.if-not-are_quiet.false) in
    subst (λ (f : Found). AreQuiet J.sessions f.steps) c.self.view_is
    (all_quiet J.entries J.names J.sessions c.self.inside.steps.items ps k.places_are k.count none)
