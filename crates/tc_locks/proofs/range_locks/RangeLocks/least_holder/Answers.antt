use Rattle.std.proofs.Common.{arith}
use Rattle.tc_locks.specs.Least.{IsLeast}
use Rattle.tc_locks.proofs.Blocking.{StandsInWay, free_where_none, least_where_some}
use Rattle.tc_locks.proofs.Placing.{forward_as}
use Rattle.tc_locks.proofs.Searching.{places_searched}
use Rattle.tc_locks.proofs.range_locks.RangeLocks.least_holder.Goals as goal

pub search-requires : goal.search-requires
search-requires c = forward_as c.args.lock.now.span c.low.result.now c.first_at.result c.keys_to.result
    c.first_at.ensures c.low.ensures c.keys_to.ensures c.requires

least : (c : goal.After-search) → IsLeast (StandsInWay c.self.inside.held c.args.txn c.args.lock.now) c.search.result
least c = grind (arith, places_searched)

pub returns-clause-free : goal.returns-clause-free
returns-clause-free c =
    rw (← c.self.view_is) (free_where_none c.self.inside.held c.args.txn c.args.lock.now c.search.result (least c))

pub returns-clause-least : goal.returns-clause-least
returns-clause-least c =
    rw (← c.self.view_is) (least_where_some c.self.inside.held c.args.txn c.args.lock.now c.search.result (least c))
