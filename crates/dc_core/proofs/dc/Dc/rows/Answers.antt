use Rattle.std.proofs.Common.{◌∙◌, ◌<◌, ◌≤◌, ◌++◌, ap, sym, arith, take, length}
use Rattle.std.proofs.lemmas.List.{take_all}
use Rattle.std.specs.FinMap.{entries}
use Rattle.dc_leaf.specs.Leaf.{LeafView}
use Rattle.dc_tree.specs.Leaves.{all_rows}
use Rattle.dc_core.proofs.Leaves.{rows_more}
use Rattle.dc_core.proofs.dc.Dc.rows.Goals as goal

pub loop-place-preserved : goal.loop-place-preserved
loop-place-preserved g c =
    let leaves = c.self.inside.system.leaves in
    let within : c.loop-place.place < length leaves =
    omega (arith, c.loop-place-test.true, c.len-place-end.ensures.count) in
    c.in_ok-add_rows.ensures.added ∙ ap (λ rows. rows ++ c.rows.result) c.loop-place.invariant
    ∙ ap (λ rows. all_rows (take c.loop-place.place leaves) ++ rows)
    (c.rows.ensures ∙ ap (λ (leaf : LeafView). entries leaf.rows) c.leaf.ensures)
    ∙ sym (rows_more leaves c.loop-place.place within)

pub returns-clause-rows : goal.returns-clause-rows
returns-clause-rows g c =
    let leaves = c.self.inside.system.leaves in
    let most : length leaves ≤ c.loop-place.place =
    omega (arith, c.loop-place-test.false, c.len-place-end.ensures.count) in
    rw (← c.self.view_is) (c.loop-place.invariant ∙ ap all_rows (take_all c.loop-place.place leaves most))
