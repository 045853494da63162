use Rattle.std.proofs.Common.{◌≡◌, ◌||◌}
use Rattle.std.specs.List.{list_any}
use Rattle.std.specs.BTreeSet.{contains}
use Rattle.tc_locks.specs.declared.entry.Entry.{Entry}
use Rattle.tc_locks.specs.Order.{entry_cmp}
use Rattle.tc_locks.proofs.Making.{is_listed}
use Rattle.tc_locks.proofs.index.index_of.Given as goal

abbrev pub invariant-loop-txn : goal.invariant-loop-txn
invariant-loop-txn l = (e : Entry) → (contains entry_cmp l.index e || list_any (is_listed e) l.txn-iterator)
    ≡ list_any (is_listed e) l.held.by_txn.entries
