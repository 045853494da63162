use Rattle.std.proofs.Common.{sym, ◌∙◌, arith}
use Rattle.std.proofs.lemmas.Bool.{le-ltb}
use Rattle.dc_tree.proofs.Places.{split_here, split_nowhere}
use Rattle.dc_tree.proofs.planning.may_split.Goals as goal

pub returns-then-place-len : goal.returns-then-place-len
returns-then-place-len g c =
    rw (c.len-then-place-len.ensures, c.rows.ensures, c.leaf.ensures)
    (sym (split_here (g.L.LeafSet.leaves c.args.leaves.now) c.args.place
    (omega (arith, c.if-place-len.true, c.len.ensures.count))))

pub returns-else-place-len : goal.returns-else-place-len
returns-else-place-len g c =
    le-ltb c.args.place c.len.result c.if-place-len.false
    ∙ sym (split_nowhere (g.L.LeafSet.leaves c.args.leaves.now) c.args.place
    (omega (arith, c.if-place-len.false, c.len.ensures.count)))
