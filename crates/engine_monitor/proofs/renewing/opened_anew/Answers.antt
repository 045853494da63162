use Rattle.std.proofs.Common.{Ok, Err, inl, inr, subst}
use Rattle.node_world.specs.dc_core.specs.DcView.{fresh_dc}
use Rattle.engine_guarded.specs.engine_history.specs.Steps.{node_at}
use Rattle.engine_guarded.specs.engine_history.specs.node_laws.specs.Node.{NodeView}
use Rattle.engine_monitor.specs.Renewing.{IsBroughtUp, IsRenewalOf, NotRenewed}
use Rattle.engine_monitor.proofs.renewing.opened_anew.Goals as goal

pub returns-in-Err-clause-refused : goal.returns-in-Err-clause-refused
returns-in-Err-clause-refused g c =
    inl (subst (λ (old : NodeView). IsBroughtUp old (Err c.in-Err.refusal) c.bring_to_rest.new.node)
    c.deref_mut.ensures.value c.in-Err.ensures)

pub returns-in-Ok-clause-renewed : goal.returns-in-Ok-clause-renewed
returns-in-Ok-clause-renewed g c =
    let dc = fresh_dc (g.E.LogDevice.usage c.args.tree) (g.Q.PageDevice.usage c.args.pages) in
    record {
      rested = c.bring_to_rest.new.node;
      rests = subst (λ (old : NodeView). IsBroughtUp old (Ok tt) c.bring_to_rest.new.node) c.deref_mut.ensures.value
          c.in_default.ensures;
      renews = subst (λ (old : NodeView). IsRenewalOf dc old (node_at c.in-Ok.opened.start)) c.deref.ensures
          c.in-Ok.ensures.renewed;
    }

pub returns-in-Err-renewed-clause-refused : goal.returns-in-Err-renewed-clause-refused
returns-in-Err-renewed-clause-refused g c =
    inr (
      subst (λ (old : NodeView). IsBroughtUp old (Ok tt) c.bring_to_rest.new.node) c.deref_mut.ensures.value
          c.in_default.ensures,
      subst (λ (old : NodeView). NotRenewed c.args.count old c.in-Err-renewed.left.refusal) c.deref.ensures
          c.in-Err-renewed.ensures.refused,
    )
