use Rattle.std.proofs.Common.{◌∙◌, sym, ap, ◌+◌, drop}
use Rattle.std.proofs.lemmas.List.{drop_more}
use Rattle.tc_core.specs.Changes.{let_go}
use Rattle.tc_core.proofs.forcing.let_go.Goals as goal

pub loop-txn-preserved : goal.loop-txn-preserved
loop-txn-preserved c =
    let i = c.loop-txn.txn-index in
    let txns = c.args.txns.now in
    ap (let_go (drop (i + 1) txns)) c.release.ensures
    ∙ sym (ap (λ ts. let_go ts c.loop-txn.locks) (drop_more txns i 0 c.loop-txn-test.true)) ∙ c.loop-txn.invariant
