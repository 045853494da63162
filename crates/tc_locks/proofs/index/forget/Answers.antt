use Rattle.std.proofs.Common.{◌≡◌, false, cond}
use Rattle.std.specs.BTreeSet.{contains}
use Rattle.std.specs.Ordering.{is_eq}
use Rattle.std.specs.declared.cmp.Ordering.{Ordering}
use Rattle.tc_locks.specs.declared.entry.Entry.{Entry}
use Rattle.tc_locks.proofs.Derived.{by_order}
use Rattle.tc_locks.proofs.Forgetting.{one_forgotten}
use Rattle.tc_locks.proofs.index.forget.Goals as goal

pub loop-lock-preserved : goal.loop-lock-preserved
loop-lock-preserved c = λ q.
    one_forgotten c.args.txn q c.args.locks.now c.loop-lock.lock-index c.lock-item.result c.copied.result _ _ _
    c.loop-lock-test.true c.copied.ensures c.lock-item.is (c.loop-lock.invariant q)
    (by_order (λ (R : Entry → Entry → Ordering). contains R c.remove.new.self q
    ≡ cond (is_eq (R (record { lock = c.copied.result; txn = c.args.txn }) q)) false
    (contains R c.loop-lock.index q))
    (c.remove.ensures.updates.0 q))
