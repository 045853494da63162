use Rattle.std.proofs.Common.{◌∙◌, sym, arith, add-one}
use Rattle.dc_tree.proofs.Places.{merge_here, merge_nowhere}
use Rattle.dc_tree.proofs.planning.may_merge.Goals as goal

pub returns-then-place-len-clause-may : goal.returns-then-place-len-clause-may
returns-then-place-len-clause-may g c =
    sym (merge_nowhere (g.L.LeafSet.leaves c.args.leaves.now) c.args.place
    (omega (arith, c.if-place-len.true, c.len.ensures.count)))

pub returns-clause-may : goal.returns-clause-may
returns-clause-may g c =
    c.may_join.ensures
    ∙ rw (
      c.len-left.ensures,
      c.len-right.ensures,
      c.rows.ensures,
      c.rows-2.ensures,
      c.leaf.ensures,
      c.leaf-2.ensures,
      add-one,
    )
    (sym (merge_here (g.L.LeafSet.leaves c.args.leaves.now) c.args.place
    (omega (arith, c.if-place-len.false, c.len.ensures.count, c.len.ensures.some))))
