use Rattle.std.proofs.Common.{arith}
use Rattle.tc_locks.proofs.Keeping.{pushed_first}
use Rattle.tc_locks.proofs.range_locks.RangeLocks.take_key.Goals as goal

pub invariant_of-self : goal.invariant_of-self
invariant_of-self c = grind (arith, pushed_first)
