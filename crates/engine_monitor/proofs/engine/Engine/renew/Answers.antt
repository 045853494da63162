use Rattle.std.proofs.Common.{◌≡◌, ℕ, length, subst, arith}
use Rattle.std.proofs.lemmas.Grind.{common_steps}
use Rattle.node_world.specs.dc_core.specs.DcView.{fresh_dc}
use Rattle.engine_guarded.specs.engine_history.specs.Commands.{commands}
use Rattle.engine_guarded.specs.engine_history.specs.Steps.{node_at}
use Rattle.engine_guarded.specs.engine_history.specs.node_laws.specs.Node.{NodeView}
use Rattle.engine_monitor.specs.Renewing.{IsLeft, IsNotRenewed, IsRenewed}
use Rattle.engine_monitor.proofs.Renewal.{if_err, if_ok, if_some}
use Rattle.engine_monitor.proofs.engine.Engine.renew.Goals as goal

pub returns-clause-renewed : goal.returns-clause-renewed
returns-clause-renewed g c =
    let J = g.J.Naming in
    let dc = fresh_dc (g.E.LogDevice.usage c.args.tree) (g.Q.PageDevice.usage c.args.pages) in
    let commanded : commands c.in-Ok.closed.steps ≡ c.args.self = grind (arith, common_steps) in
    let left : IsLeft J.start J.sessions c.args.self c.args.sessions.items c.in-Ok.closed.node = record {
      steps = c.in-Ok.closed.steps;
      passes = c.kept.ensures.passes;
      owned = c.kept.ensures.owned;
      covered = c.in-Ok.ensures.kept;
      commanded = commanded;
    } in
    if_ok c.opened_anew.result (λ opened made. record {
      old = c.in-Ok.closed.node;
      left = left;
      renewed = subst (λ (old : NodeView). IsRenewed dc old (node_at opened.start)) c.into_node.ensures made;
    }) c.opened_anew.ensures.renewed

pub returns-clause-refused : goal.returns-clause-refused
returns-clause-refused g c =
    let J = g.J.Naming in
    let commanded : commands c.in-Ok.closed.steps ≡ c.args.self = grind (arith, common_steps) in
    let counted : c.len-count.result ≡ length c.args.sessions.items = grind (arith, common_steps) in
    let left : IsLeft J.start J.sessions c.args.self c.args.sessions.items c.in-Ok.closed.node = record {
      steps = c.in-Ok.closed.steps;
      passes = c.kept.ensures.passes;
      owned = c.kept.ensures.owned;
      covered = c.in-Ok.ensures.kept;
      commanded = commanded;
    } in
    if_err c.opened_anew.result (λ why back. if_some _ why.node (λ node refused. record {
      old = c.in-Ok.closed.node;
      left = left;
      refused = subst (λ (n : ℕ). IsNotRenewed n c.in-Ok.closed.node why.refusal node.value) counted
          (subst (λ (old : NodeView). IsNotRenewed c.len-count.result old why.refusal node.value) c.into_node.ensures refused);
    }) back) c.opened_anew.ensures.refused
