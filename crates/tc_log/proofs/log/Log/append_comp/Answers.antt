use Rattle.tc_log.specs.Undoing.{comp_at}
use Rattle.tc_log.proofs.Kept.{kept_longer}
use Rattle.tc_log.proofs.log.Log.append_comp.Goals as goal

pub invariant_of-self-2 : goal.invariant_of-self-2
invariant_of-self-2 g c =
    let frames = c.self.inside.frames in
    rw (c.in_ok-done.ensures.appended)
    (kept_longer g.D.LogDevice.forces_whole frames c.self.inside.stable c.self.inside.answered
    c.self.inside.last_not_session (comp_at frames.records c.args.txn c.args.undoes) c.in_ok-done.done.number
    c.self.invariant c.in_ok-done.ensures.told.number)
