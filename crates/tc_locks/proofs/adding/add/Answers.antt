use Rattle.std.proofs.Common.{arith}
use Rattle.tc_locks.proofs.Keeping.{pushed_alone}
use Rattle.tc_locks.proofs.adding.add.Goals as goal

pub returns-in-None-clause-kept : goal.returns-in-None-clause-kept
returns-in-None-clause-kept c = grind (arith, pushed_alone)
