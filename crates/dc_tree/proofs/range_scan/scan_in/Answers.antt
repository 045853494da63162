use Rattle.std.proofs.Common.{◌≡◌, ℕ, ◌-◌, true, List, ◌++◌, length, take, drop, take_all, sym, ap, ◌∙◌, subst, arith, add-one, append_assoc, append-nil, length-drop, Box}
use Rattle.std.specs.declared.alloc.Global.{Global}
use Rattle.std.specs.Option.{option_copied}
use Rattle.record_key.specs.Order.{Range, rows_in}
use Rattle.dc_leaf.specs.Leaf.{LeafView}
use Rattle.record_key.specs.Rows.{Row}
use Rattle.dc_tree.specs.Lists.{is_past, leaf_of, leaves_in}
use Rattle.dc_tree.proofs.Scanning.{found_in, found_more, found_stopped, found_ended}
use Rattle.dc_tree.proofs.range_scan.scan_in.Goals as goal

-- the leaves from the range's first on
suffix : (xs : List (Box LeafView Global)) (p : ℕ)
    → take (length xs - p) (drop p xs) ≡ drop p xs
suffix xs p = take_all (length xs - p) (drop p xs) (omega (arith, length-drop p xs))

pub loop-leaf-init : goal.loop-leaf-init
loop-leaf-init g c = sym (append-nil (g.S.RowSink.rows c.args.found.now))

pub returns-then-begins_past-clause-found : goal.returns-then-begins_past-clause-found
returns-then-begins_past-clause-found g c =
    let s : Range = record { lo = c.args.low.now; hi = option_copied c.args.high } in
    let xs = c.args.leaves.now in
    let p = c.place_in.result in
    let past : is_past (leaf_of c.leaf-item.result).low_fence s.hi ≡ true =
    subst (λ (leaf : LeafView). is_past leaf.low_fence s.hi ≡ true) c.deref.ensures
    (sym c.begins_past.ensures ∙ c.if-begins_past.true) in
    c.loop-leaf.invariant
    ∙ ap (λ (rows : List Row). g.S.RowSink.rows c.args.found.now ++ rows)
    (found_stopped leaf_of s xs (take (length xs - p) (drop p xs)) p c.requires c.place_in.ensures.place (suffix xs p)
    c.loop-leaf.leaf-index c.leaf-item.result c.place_in.ensures.within c.loop-leaf-test.true c.leaf-item.is past)

pub loop-leaf-preserved : goal.loop-leaf-preserved
loop-leaf-preserved g c =
    let s : Range = record { lo = c.args.low.now; hi = option_copied c.args.high } in
    let old = g.S.RowSink.rows c.args.found.now in
    let xs = c.args.leaves.now in
    let ys = take (length xs - c.place_in.result) (drop c.place_in.result xs) in
    let so_far = found_in s (leaves_in (take c.loop-leaf.leaf-index ys)) in
    rw add-one
    (c.in_ok-add.ensures.added
    ∙ ap (λ (rows : List Row). rows ++ c.scan.result) c.loop-leaf.invariant
    ∙ append_assoc old so_far c.scan.result
    ∙ ap (λ (rows : List Row). old ++ rows)
    (ap (λ (rows : List Row). so_far ++ rows)
    (c.scan.ensures ∙ ap (λ (leaf : LeafView). rows_in s leaf.rows) c.deref-in-loop-leaf.ensures)
    ∙ sym (found_more leaf_of s ys c.loop-leaf.leaf-index c.leaf-item.result c.leaf-item.result c.loop-leaf-test.true
    (ap leaf_of c.leaf-item.is))))

pub returns-clause-found : goal.returns-clause-found
returns-clause-found g c =
    let s : Range = record { lo = c.args.low.now; hi = option_copied c.args.high } in
    let xs = c.args.leaves.now in
    let p = c.place_in.result in
    c.loop-leaf.invariant
    ∙ ap (λ (rows : List Row). g.S.RowSink.rows c.args.found.now ++ rows)
    (found_ended leaf_of s xs (take (length xs - p) (drop p xs)) p c.requires c.place_in.ensures.place (suffix xs p)
    c.loop-leaf.leaf-index (omega (arith, c.loop-leaf-test.false)))
