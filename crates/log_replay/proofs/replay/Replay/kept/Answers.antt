use Rattle.log_replay.proofs.replay.Replay.kept.Goals as goal

pub returns : goal.returns
returns c = rw (← c.self.view_is) c.self.invariant.right
