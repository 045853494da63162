use Rattle.std.proofs.Common.{arith}
use Rattle.tc_restart.proofs.RedoStart.{latest_within}
use Rattle.tc_restart.proofs.work.work_of.Goals as goal

pub overflow_add-result : goal.overflow_add-result
overflow_add-result g c =
    omega (
      arith,
      latest_within c.args.frames.now.records c.args.analysis.now.checkpointed c.requires.legal
          c.requires.known.checkpointed,
      c.requires.numbered,
    )
