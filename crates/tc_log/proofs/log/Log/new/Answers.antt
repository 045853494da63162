use Rattle.std.proofs.Common.{subst, sym}
use Rattle.stable.specs.LogState.{LogState}
use Rattle.tc_log.specs.Kept.{FramesView, IsKept}
use Rattle.tc_log.proofs.Kept.{kept_empty}
use Rattle.tc_log.proofs.log.Log.new.Goals as goal

pub invariant_of-result : goal.invariant_of-result
invariant_of-result g c =
    let device : LogState = record {
      forced = g.D.LogDevice.forced c.args.device;
      pending = g.D.LogDevice.pending c.args.device;
      usage = g.D.LogDevice.usage c.args.device;
    } in
    let Kept : FramesView → Type 0 = λ v. IsKept g.D.LogDevice.forces_whole v 0 0 0 in
    subst Kept (sym c.new.ensures)
    (kept_empty g.D.LogDevice.forces_whole device c.requires.empty.0 c.requires.empty.1)
