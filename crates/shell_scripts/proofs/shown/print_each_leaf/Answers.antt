use Rattle.std.proofs.Common.{◌<◌, ◌≤◌, arith, length}
use Rattle.dc_leaf.specs.Leaf.{first}
use Rattle.shell_scripts.proofs.Printing.{prints_err, cut_at_item, item_more, items_all}
use Rattle.shell_scripts.specs.Stored.{leaf_line}
use Rattle.shell_scripts.specs.View.{leaves_shown}
use Rattle.shell_scripts.proofs.shown.print_each_leaf.Goals as goal

pub returns-in_err-print_leaf : goal.returns-in_err-print_leaf
returns-in_err-print_leaf g c =
    let leaves = leaves_shown c.args.world.now in
    let within : c.loop-place.place < length leaves = omega (arith, c.loop-place-test.true, c.requires.all) in
    prints_err _ _ _ c.from_residual.result c.from_residual.ensures.0
    (cut_at_item leaf_line _ _ _ leaves c.loop-place.place c.leaf.result.now first within c.leaf.ensures
    c.loop-place.invariant c.in_err-print_leaf.ensures)

pub loop-place-preserved : goal.loop-place-preserved
loop-place-preserved g c =
    let leaves = leaves_shown c.args.world.now in
    let within : c.loop-place.place < length leaves = omega (arith, c.loop-place-test.true, c.requires.all) in
    item_more leaf_line _ _ _ leaves c.loop-place.place c.leaf.result.now first within c.leaf.ensures
    c.loop-place.invariant c.in_ok-print_leaf.ensures

pub returns : goal.returns
returns g c =
    let leaves = leaves_shown c.args.world.now in
    let most : length leaves ≤ c.loop-place.place = omega (arith, c.loop-place-test.false, c.requires.all) in
    items_all leaf_line _ _ leaves c.loop-place.place most c.loop-place.invariant
