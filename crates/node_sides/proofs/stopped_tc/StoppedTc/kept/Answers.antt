use Rattle.std.proofs.Common.{arith, subst}
use Rattle.node_laws.specs.tc_core.specs.Kept.{IsTc}
use Rattle.node_laws.specs.tc_core.proofs.OpenedLog.{opened_kept}
use Rattle.node_sides.proofs.stopped_tc.StoppedTc.kept.Goals as goal

pub returns : goal.returns
returns g c =
    let log = c.self.invariant.0 in
    subst IsTc c.self.view_is
    (opened_kept c.self.inside.found.log (g.D.LogDevice.usage c.self.inside.device) log.legal (omega (arith, log.numbered)))
