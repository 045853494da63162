use Rattle.std.proofs.Common.{◌<◌, List, length, sym, ◌∙◌, arith}
use Rattle.dc_leaf.specs.Leaf.{LeafView}
use Rattle.dc_store.proofs.Replacing.{within_taken, copy_taken, all_taken}
use Rattle.dc_store.proofs.taking_back.copies_above.Goals as goal
use Rattle.dc_store.proofs.taking_back.copies_above.Goals.{then-not-is_within+in_ok-taken_back+in_ok-leaf+in_ok-push, else-not-is_within}

pub loop-place-preserved : goal.loop-place-preserved
loop-place-preserved g c =
    let leaves : List LeafView = g.L.LeafSet.leaves c.args.leaves.now in
    let p = c.loop-place.place in
    let there : p < length leaves = omega (arith, c.loop-place-test.true, c.len-place-end.ensures.count) in
    elim c.if-not-is_within.branch [
      | then-not-is_within+in_ok-taken_back+in_ok-leaf+in_ok-push w ↦
          rw (w.copies-is, w.in_ok-push.ensures.items)
          (copy_taken c.args.end p leaves c.leaf-leaf.result.now c.loop-place.copies.items there c.leaf-leaf.ensures
          c.loop-place.invariant _ (w.in_ok-leaf.ensures.ok ∙ w.in_ok-taken_back.ensures.taken))
      | else-not-is_within w ↦
          rw w.copies-is
          (within_taken c.args.end p leaves c.leaf-leaf.result.now c.loop-place.copies.items there c.leaf-leaf.ensures
          c.loop-place.invariant (sym c.is_within.ensures ∙ w.if-not-is_within.false))
    ]

pub returns-clause-taken : goal.returns-clause-taken
returns-clause-taken g c =
    all_taken c.args.end c.loop-place.place (g.L.LeafSet.leaves c.args.leaves.now) c.loop-place.copies.items
    (omega (arith, c.loop-place-test.false, c.loop-place.auto.place-end, c.len-place-end.ensures.count))
    c.loop-place.invariant
