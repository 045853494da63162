use Rattle.std.proofs.Common.{◌∙◌, ap, sym, subst}
use Rattle.engine_history.specs.node_laws.specs.Forgetting.{without_messages}
use Rattle.engine_history.specs.node_laws.specs.Node.{NodeView}
use Rattle.engine_history.specs.Steps.{node_at}
use Rattle.engine_guarded.specs.Running.{PassesFrom}
use Rattle.engine_guarded.proofs.Running.{passes_forgotten}
use Rattle.engine_guarded.proofs.guarded.Guarded.into_closed.Goals as goal

pub invariant_of-result : goal.invariant_of-result
invariant_of-result g c =
    let J = g.J.Naming in
    let k = c.self.invariant in
    let es = c.self.inside.steps.items in
    let left = c.forget.ensures ∙ ap without_messages c.deref_mut.ensures.value in
    record {
      passes =
          subst (λ (w : NodeView). PassesFrom J.start es w) (sym left)
          (passes_forgotten (node_at J.start) es c.self.inside.world.value k.passes);
      owned = k.owned;
    }
