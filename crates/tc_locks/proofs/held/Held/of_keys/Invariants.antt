use Rattle.std.proofs.Common.{take}
use Rattle.tc_locks.specs.Meant.{seen}
use Rattle.tc_locks.specs.Rebuilt.{IsRebuilt}
use Rattle.tc_locks.proofs.held.Held.of_keys.Given as goal

abbrev pub invariant-loop-txn : goal.invariant-loop-txn
invariant-loop-txn l = IsRebuilt (take l.txn-index l.locks) (seen l.held)
