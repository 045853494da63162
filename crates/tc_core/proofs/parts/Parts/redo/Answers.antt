use Rattle.std.proofs.Common.{◌∙◌, true, subst, arith, sym, ap, refl, Some, None}
use Rattle.codec.specs.declared.request.Request.TheVariants.{Perform}
use Rattle.history.specs.Log.{Requests, HasRequest}
use Rattle.tc_core.specs.declared.phase.Phase.{Phase}
use Rattle.tc_core.specs.Kept.{IsPhase, IsTc}
use Rattle.tc_core.specs.Recovery.{redoing}
use Rattle.tc_core.specs.Seen.{seen}
use Rattle.tc_core.specs.TcView.{TcView}
use Rattle.tc_core.proofs.Asking.{none_asks, none_before, has_request}
use Rattle.tc_core.proofs.KeepsLost.{keeps_redoing}
use Rattle.tc_core.proofs.parts.Parts.redo.Goals as goal

pub perform-requires : goal.perform-requires
perform-requires g c =
    let w = seen c.args.self.now in
    let n = c.in-Some.number in
    subst (λ (v : TcView). HasRequest v.log n) (sym c.in-Some.ensures.there)
    (has_request w.log c.args.next w.session n c.in-Some.ensures.finds.is)

pub returns-in-None-clause-kept : goal.returns-in-None-clause-kept
returns-in-None-clause-kept g c =
    let w = seen c.args.self.now in
    let at = c.requires.redoing in
    let P : Phase → Type 0 = IsPhase w.checkpointed w.session in
    let kept : IsTc (redoing w w.session true) =
    keeps_redoing w c.requires.kept c.args.next at.0 w.session true at.1 (subst P at.1 c.requires.kept.phase).1
    (omega arith) (λ e. refl) (none_asks w.log c.args.next w.session c.in-None.ensures.finds) in
    subst (λ (v : TcView). IsTc (redoing v w.session true)) (sym c.in-None.ensures.same) kept

pub returns-in-Some-clause-redoes : goal.returns-in-Some-clause-redoes
returns-in-Some-clause-redoes g c =
    let w = seen c.args.self.now in
    let n = c.in-Some.number in
    let asks = c.perform.ensures in
    let found = c.in-Some.ensures.finds in
    let there = c.in-Some.ensures.there in
    record {
      found = Some (n, asks.op);
      finds = (
        found.is.from_there,
        found.is.up_to,
        subst (λ (v : TcView). Requests v.log n asks.op) there asks.requests,
        none_before w.log c.args.next w.session n found,
      );
      request_is = asks.is ∙ ap (λ (v : TcView). Perform v.session n v.stable asks.op) there;
      left = there;
    }

pub returns-in-None-clause-redoes : goal.returns-in-None-clause-redoes
returns-in-None-clause-redoes g c =
    let w = seen c.args.self.now in
    record {
      found = None;
      finds = none_asks w.log c.args.next w.session c.in-None.ensures.finds;
      request_is = refl;
      left = ap (λ (v : TcView). redoing v w.session true) c.in-None.ensures.same;
    }
