use Rattle.std.proofs.Common.{◌∙◌, ◌<◌, ◌≤◌, ap, arith, length}
use Rattle.std.proofs.lemmas.List.{take_all}
use Rattle.dc_leaf.specs.Leaf.{LeafView}
use Rattle.dc_core.specs.DcView.{top_low}
use Rattle.dc_core.proofs.Leaves.{low_more}
use Rattle.dc_core.proofs.system.top_low.Goals as goal

pub loop-place-preserved : goal.loop-place-preserved
loop-place-preserved g c =
    let leaves = c.args.system.now.leaves in
    let within : c.loop-place.place < length leaves =
    omega (arith, c.loop-place-test.true, c.len-place-end.ensures.count) in
    let more = low_more leaves c.loop-place.place within in
    let read = c.low.ensures ∙ ap (λ (leaf : LeafView). leaf.ab.low) c.leaf.ensures in
    omega (arith, more, read, c.loop-place.invariant, c.max-most.ensures)

pub returns : goal.returns
returns g c =
    let leaves = c.args.system.now.leaves in
    let most : length leaves ≤ c.loop-place.place =
    omega (arith, c.loop-place-test.false, c.len-place-end.ensures.count) in
    c.loop-place.invariant ∙ ap top_low (take_all c.loop-place.place leaves most)
