use Rattle.std.proofs.Common.{◌≡◌, ℕ, Some, sym, subst}
use Rattle.std.specs.Global.{Vec}
use Rattle.std.specs.BTreeMap.{get}
use Rattle.std.specs.Ordering.{nat_cmp}
use Rattle.std.specs.List.{All}
use Rattle.tc_locks.specs.declared.span.Lock.{Lock}
use Rattle.tc_locks.specs.Least.{IsLeast}
use Rattle.tc_locks.proofs.Blocking.{StandsInWay, all_listed, searched, free_where_none, least_where_some}
use Rattle.tc_locks.proofs.held.Held.least_holder.Goals as goal

-- at its end the loop has the least
ended : (c : goal.In-None) → IsLeast (StandsInWay c.args.self.now c.args.txn c.args.lock.now) c.loop-holder.least
ended c =
    let m = c.args.self.now.by_txn in
    let found : All (λ (e : ℕ × Vec Lock). get nat_cmp m e.0 ≡ Some e.1) m.entries =
    c.into_iter-holder-iterator.ensures.into_iter_gives.6 in
    let same = rw (c.in-None.ensures.steps.0) at c.loop-holder.invariant in
    subst (IsLeast (StandsInWay c.args.self.now c.args.txn c.args.lock.now)) (sym same)
    (searched c.args.self.now c.args.txn c.args.lock.now (all_listed _ m.entries found))

pub returns-clause-free : goal.returns-clause-free
returns-clause-free c = free_where_none c.args.self.now c.args.txn c.args.lock.now c.loop-holder.least (ended c)

pub returns-clause-least : goal.returns-clause-least
returns-clause-least c = least_where_some c.args.self.now c.args.txn c.args.lock.now c.loop-holder.least (ended c)
