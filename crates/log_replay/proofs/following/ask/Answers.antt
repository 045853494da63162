use Rattle.log_replay.proofs.Dues.{taken_back}
use Rattle.log_replay.proofs.following.ask.Goals as goal

pub returns-in-Err-clause-unchanged : goal.returns-in-Err-clause-unchanged
returns-in-Err-clause-unchanged c =
    taken_back c.args.taken.now.items c.args.values.now c.apply.new.values c.args.dues.now c.insert.new.self
    c.remove.new.self c.args.number _ c.requires.kept c.requires.number c.in-Err.ensures.unchanged
    c.in_ok-insert.ensures.updates c.remove.ensures.updates
