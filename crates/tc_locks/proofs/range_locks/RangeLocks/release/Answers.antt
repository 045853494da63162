use Rattle.std.proofs.Common.{arith}
use Rattle.tc_locks.proofs.Indexing.{released_index}
use Rattle.tc_locks.proofs.range_locks.RangeLocks.release.Goals as goal

pub invariant_of-self-in-Some-index : goal.invariant_of-self-in-Some-index
invariant_of-self-in-Some-index c = grind (arith, released_index)
