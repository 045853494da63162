use Rattle.std.proofs.Common.{arith}
use Rattle.tc_locks.proofs.range_locks.RangeLocks.take.Goals as goal

pub returns-clause-free : goal.returns-clause-free
returns-clause-free c = grind arith
