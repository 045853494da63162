use Rattle.std.proofs.Common.{sym, subst}
use Rattle.stable.specs.Usage.{Usage, failing_in}
use Rattle.stable.specs.PagesState.{Pages}
use Rattle.node_laws.specs.dc_core.specs.Kept.{IsDc}
use Rattle.node_laws.specs.dc_core.proofs.KeepsSystems.{usage_keeps}
use Rattle.node_laws.specs.Component.{found_on}
use Rattle.node_sides.proofs.stopped_dc.StoppedDc.fail_at.Goals as goal

pub invariant_of-self-in-Pages : goal.invariant_of-self-in-Pages
invariant_of-self-in-Pages g c =
    let devices = c.self.inside.devices in
    let log = c.self.inside.found.log in
    let log_usage : Usage = g.D.LogDevice.usage devices.log in
    let pages : Pages = g.P.PageDevice.pages devices.pages in
    let usage : Usage = failing_in c.args.n (g.P.PageDevice.usage devices.pages) in
    let kept : IsDc (found_on pages log_usage usage log) =
    usage_keeps (found_on pages log_usage (g.P.PageDevice.usage devices.pages) log) log_usage usage
    c.self.invariant.1.1 in
    let set : IsDc (found_on pages log_usage (g.P.PageDevice.usage c.fail_at-in-Pages.new.self) log) =
    subst (λ (u : Usage). IsDc (found_on pages log_usage u log)) (sym c.fail_at-in-Pages.ensures.set) kept in (
      c.self.invariant.0,
      (
        c.self.invariant.1.0,
        subst (λ (ps : Pages). IsDc (found_on ps log_usage (g.P.PageDevice.usage c.fail_at-in-Pages.new.self) log))
            (sym c.fail_at-in-Pages.ensures.pages) set,
      ),
    )
