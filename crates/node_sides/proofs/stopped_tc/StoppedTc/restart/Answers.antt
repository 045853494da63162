use Rattle.std.proofs.Common.{◌∙◌, ap, sym, subst}
use Rattle.tc_log.proofs.Crashed.{never_bad}
use Rattle.tc_log.specs.Opening.{IsLogOf, UsedToOpen}
use Rattle.node_laws.specs.tc_core.specs.TcView.{TcView, used_so}
use Rattle.node_laws.specs.tc_core.specs.Opened.{IsOpenedAgain}
use Rattle.node_laws.specs.tc_core.proofs.CrashedTc.{opens_again}
use Rattle.node_laws.proofs.Restarts.TcDowns.{tc_unopened}
use Rattle.node_sides.proofs.stopped_tc.StoppedTc.restart.Goals as goal

pub returns-in-Ok-clause-restarted : goal.returns-in-Ok-clause-restarted
returns-in-Ok-clause-restarted g c =
    let device = c.self.inside.device in
    let P : TcView → Type 0 = λ old. IsOpenedAgain old c.in-Ok.tc in
    subst P c.self.view_is
    (opens_again (g.D.LogDevice.forced device) c.self.inside.found.log (g.D.LogDevice.usage device) c.in-Ok.tc
    c.self.invariant.0
    c.in-Ok.ensures.opened c.kept.ensures)

pub on-found-requires : goal.on-found-requires
on-found-requires g c =
    (c.self.inside.found.log, subst (λ b. IsLogOf b c.self.inside.found.log) (sym c.in-Err.ensures.forced) c.self.invariant.0)

pub invariant_of-result : goal.invariant_of-result
invariant_of-result g c = (c.on-found.ensures, c.in-Err.ensures.none_pending)

pub returns-in-Err-clause-refused : goal.returns-in-Err-clause-refused
returns-in-Err-clause-refused g c =
    never_bad (g.D.LogDevice.forced c.self.inside.device) c.self.inside.found.log c.in-Err.field-0.refusal c.self.invariant.0
    c.in-Err.ensures.refused

pub returns-in-Err-clause-left : goal.returns-in-Err-clause-left
returns-in-Err-clause-left g c =
    let device = c.self.inside.device in
    let left = c.in-Err.field-0.device in
    tc_unopened (g.D.LogDevice.forced device) (g.D.LogDevice.forced left) (g.D.LogDevice.usage device)
    (g.D.LogDevice.usage left) c.self.inside.found.log c.on-found.result.log c.self.invariant.0
    c.in-Err.ensures.forced c.on-found.ensures
    ∙ ap (λ (w : TcView). used_so w (g.D.LogDevice.usage left)) c.self.view_is

pub returns-in-Err-clause-used : goal.returns-in-Err-clause-used
returns-in-Err-clause-used g c =
    subst (λ (w : TcView). UsedToOpen w.usage c.in-Err.field-0.refusal (g.D.LogDevice.usage c.in-Err.field-0.device)) c.self.view_is
    c.in-Err.ensures.used
