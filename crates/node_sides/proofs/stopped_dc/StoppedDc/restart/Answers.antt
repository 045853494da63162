use Rattle.std.proofs.Common.{sym, subst}
use Rattle.node_laws.specs.dc_store.specs.Kept.{IsRecoverable}
use Rattle.node_laws.specs.dc_core.specs.DcView.{DcView}
use Rattle.node_laws.specs.Component.{found_on, IsUp, IsDownWith}
use Rattle.node_laws.proofs.Restarts.Downs.{opened_is, down_with, down_kept}
use Rattle.node_sides.proofs.stopped_dc.StoppedDc.restart.Goals as goal

pub invariant_of-result : goal.invariant_of-result
invariant_of-result g c =
    let d = c.self.inside.devices in
    let e = c.in-Err.field-0.devices in
    let is =
    down_kept (g.D.LogDevice.forced d.log) (g.D.LogDevice.forced e.log) (g.P.PageDevice.pages d.pages)
    (g.P.PageDevice.pages e.pages) (g.D.LogDevice.usage d.log) (g.D.LogDevice.usage e.log)
    (g.P.PageDevice.usage d.pages) (g.P.PageDevice.usage e.pages) c.self.inside.found.log c.on-found.result.log
    c.self.invariant.0 c.in-Err.ensures.log_left c.on-found.ensures c.in-Err.ensures.pages_left c.self.invariant.1.1 in
    (c.on-found.ensures, (c.in-Err.ensures.none_left, is))

abbrev Recovered : DcView → Type 0
Recovered dc = IsRecoverable dc.system

pub returns-in-Ok-clause-restarted : goal.returns-in-Ok-clause-restarted
returns-in-Ok-clause-restarted g c =
    let d = c.self.inside.devices in
    let P : DcView → Type 0 = λ old. IsUp old c.in-Ok.dc in
    subst P c.self.view_is
    (opened_is (g.D.LogDevice.forced d.log) (g.P.PageDevice.pages d.pages) (g.D.LogDevice.usage d.log)
    (g.P.PageDevice.usage d.pages) c.self.inside.found.log c.in-Ok.dc c.self.invariant.0
    (subst Recovered (sym c.self.view_is) c.requires) c.in-Ok.ensures.recovers c.in-Ok.ensures.restarted
    c.in-Ok.ensures.log_used c.in-Ok.ensures.pages_used)

pub returns-in-Err-clause-refused : goal.returns-in-Err-clause-refused
returns-in-Err-clause-refused g c =
    let d = c.self.inside.devices in
    let e = c.in-Err.field-0.devices in
    let left : DcView =
    found_on (g.P.PageDevice.pages e.pages) (g.D.LogDevice.usage e.log) (g.P.PageDevice.usage e.pages)
    c.on-found.result.log in
    let P : DcView → Type 0 = λ old. IsDownWith old c.in-Err.field-0.refusal left in
    subst P c.self.view_is
    (down_with (g.D.LogDevice.forced d.log) (g.D.LogDevice.forced e.log) (g.P.PageDevice.pages d.pages)
    (g.P.PageDevice.pages e.pages) (g.D.LogDevice.usage d.log) (g.D.LogDevice.usage e.log)
    (g.P.PageDevice.usage d.pages) (g.P.PageDevice.usage e.pages) c.self.inside.found.log c.on-found.result.log
    c.self.invariant.0 c.in-Err.ensures.log_left c.on-found.ensures c.in-Err.ensures.pages_left
    c.in-Err.field-0.refusal c.self.invariant.1.1 (subst Recovered (sym c.self.view_is) c.requires)
    c.in-Err.ensures.stopped c.in-Err.ensures.refused)
