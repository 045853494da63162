use Rattle.std.proofs.Common.{◌≡◌, ◌∙◌, ◌<◌, get_or, length, sym, ap, arith, add-one}
use Rattle.std.proofs.lemmas.List.{length-map}
use Rattle.dc_leaf.specs.Leaf.{first}
use Rattle.dc_tree.specs.Choosing.{first_large, is_due}
use Rattle.dc_tree.specs.Lists.{leaf_of, leaves_in}
use Rattle.dc_tree.proofs.Firsts.{from_start, large_here, large_later, large_nowhere}
use Rattle.dc_tree.proofs.Places.{in_box}
use Rattle.dc_tree.proofs.choosing.large_in.Goals as goal
use Rattle.dc_tree.proofs.choosing.large_in.Goals.{After-is_due}

pub loop-place-init : goal.loop-place-init
loop-place-init c = from_start (first_large c.args.known (leaves_in c.args.leaves.now))

-- what is asked of the leaf at the place
asked : (c : After-is_due)
    → is_due c.args.known (get_or (leaves_in c.args.leaves.now) c.loop-place.place first) ≡ c.is_due.result
asked c =
    ap (is_due c.args.known)
    (in_box c.args.leaves.now c.loop-place.place c.index-leaves-place.result c.loop-place-test.true
    c.index-leaves-place.is ∙ sym c.deref.ensures)
    ∙ sym c.is_due.ensures

pub loop-place-preserved : goal.loop-place-preserved
loop-place-preserved c =
    let leaves = leaves_in c.args.leaves.now in
    let there : c.loop-place.place < length leaves =
    omega (arith, c.loop-place-test.true, length-map c.args.leaves.now leaf_of) in
    rw add-one (large_later c.args.known leaves c.loop-place.place there (asked c.before ∙ c.if-is_due.false)
    c.loop-place.invariant)

pub returns-then-is_due : goal.returns-then-is_due
returns-then-is_due c =
    let leaves = leaves_in c.args.leaves.now in
    let there : c.loop-place.place < length leaves =
    omega (arith, c.loop-place-test.true, length-map c.args.leaves.now leaf_of) in
    sym (large_here c.args.known leaves c.loop-place.place there (asked c.before ∙ c.if-is_due.true)
    c.loop-place.invariant)

pub returns : goal.returns
returns c =
    large_nowhere c.args.known (leaves_in c.args.leaves.now) c.loop-place.place
    (omega (arith, c.loop-place-test.false, length-map c.args.leaves.now leaf_of)) c.loop-place.invariant
