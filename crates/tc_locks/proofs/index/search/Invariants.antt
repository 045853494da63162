use Rattle.std.proofs.Common.{◌≡◌, filter}
use Rattle.std.specs.BTreeMap.Range.{range_contains}
use Rattle.tc_locks.specs.Order.{entry_cmp}
use Rattle.tc_locks.specs.Least.{least_of}
use Rattle.tc_locks.specs.Index.{txn_of, stops}
use Rattle.tc_locks.proofs.index.search.Given as goal

abbrev pub invariant-loop-entry : goal.invariant-loop-entry
invariant-loop-entry l =
    least_of txn_of (stops l.txn l.lock) l.least l.entry-iterator
    ≡ least_of txn_of (stops l.txn l.lock) l.fn.before
    (filter (range_contains entry_cmp l.fn.from l.fn.to) l.fn.index.keys)
