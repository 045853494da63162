use Rattle.std.proofs.Common.{◌||◌, sym, ap, ◌∙◌}
use Rattle.std.specs.List.{list_any}
use Rattle.std.specs.BTreeSet.{contains}
use Rattle.tc_locks.specs.Order.{entry_cmp}
use Rattle.tc_locks.proofs.Making.{is_listed, all_in}
use Rattle.tc_locks.proofs.index.index_of.Goals as goal

pub returns-clause-made : goal.returns-clause-made
returns-clause-made c = λ q.
    all_in c.args.held.now q (contains entry_cmp c.loop-txn.index q) c.into_iter-txn-iterator.ensures.into_iter_gives.5
    (sym (ap (λ rest. contains entry_cmp c.loop-txn.index q || list_any (is_listed q) rest) c.in-None.ensures.steps.0)
    ∙ c.loop-txn.invariant q)
