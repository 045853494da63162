use Rattle.std.proofs.Common.{ℕ, ◌∷◌, ◌∙◌, ap}
use Rattle.history.specs.Spans.{Span}
use Rattle.tc_locks.specs.Locks.{spans_of, set_spans}
use Rattle.tc_locks.proofs.Rebuilding.{one_rebuilt}
use Rattle.tc_locks.proofs.range_locks.RangeLocks.of_keys.Goals as goal

pub loop-txn-preserved : goal.loop-txn-preserved
loop-txn-preserved c =
    let v = c.loop-txn.table in
    let t : ℕ = c.loop-txn-item.result.0 in
    one_rebuilt c.args.locks.now c.loop-txn.txn-index c.loop-txn-item.result c.loop-txn-test.true
    c.loop-txn-item.is v c.hold.new.self
    (c.in_ok-hold.ensures.taken ∙ ap (λ (s : Span). set_spans t (s ∷ spans_of v t) v) c.of_key.ensures)
    c.loop-txn.invariant
