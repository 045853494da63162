use Rattle.tc_log.proofs.replay.Index.follow.Goals as goal

pub returns-in_ok-hold-clause-adders : goal.returns-in_ok-hold-clause-adders
returns-in_ok-hold-clause-adders c = rw c.in-Op.is c.in_ok-hold.ensures.adders
