use Rattle.std.proofs.Common.{◌≡◌, ◌&&◌, take}
use Rattle.std.specs.Prelude.{not}
use Rattle.std.specs.List.{list_any}
use Rattle.std.specs.BTreeSet.{contains}
use Rattle.tc_locks.specs.declared.entry.Entry.{Entry}
use Rattle.tc_locks.specs.Order.{entry_cmp}
use Rattle.tc_locks.specs.Index.{is_entry_of}
use Rattle.tc_locks.proofs.index.forget.Given as goal

abbrev pub invariant-loop-lock : goal.invariant-loop-lock
invariant-loop-lock l = (e : Entry) → contains entry_cmp l.index e
    ≡ (contains entry_cmp l.fn.index e && not (list_any (is_entry_of l.txn e) (take l.lock-index l.locks)))
