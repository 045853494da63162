use Rattle.std.proofs.Common.{take}
use Rattle.tc_locks.specs.Rebuilt.{IsRebuilt}
use Rattle.tc_locks.proofs.range_locks.RangeLocks.of_keys.Given as goal

abbrev pub invariant-loop-txn : goal.invariant-loop-txn
invariant-loop-txn l = IsRebuilt (take l.txn-index l.locks) l.table
