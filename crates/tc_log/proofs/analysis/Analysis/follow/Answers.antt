use Rattle.tc_log.proofs.Analysing.{analysis_more}
use Rattle.tc_log.proofs.analysis.Analysis.follow.Goals as goal

pub returns-clause-taken : goal.returns-clause-taken
returns-clause-taken c =
    analysis_more c.args.accepted.now c.args.number c.args.self.now
    (record { open_txns = c.note_step.new.open_txns; checkpointed = c.raised-self.result })
    c.in_ok-note_step.ensures.follows c.raised-self.ensures
