use Rattle.std.proofs.Common.{◌∙◌}
use Rattle.log_replay.proofs.Dues.{left_is}
use Rattle.log_replay.proofs.replay.Replay.due.Goals as goal

pub returns : goal.returns
returns c =
    rw (← c.self.view_is) (c.get.ensures.value ∙ c.self.invariant.follows.of_requests c.args.number
    ∙ left_is c.self.inside.taken.items c.args.number (rw (c.self.view_is) c.requires))
