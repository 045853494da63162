use Rattle.std.proofs.Common.{◌≡◌, ◌<◌, length, get_or, refl, sym, ap, ◌∙◌, arith, add-one}
use Rattle.std.proofs.lemmas.List.{get_or-map, length-map}
use Rattle.std.proofs.lemmas.Grind.{common_steps}
use Rattle.std.specs.Box.{with_value}
use Rattle.dc_leaf.specs.Leaf.{LeafView, first}
use Rattle.dc_leaf.specs.Parting.{lower_of}
use Rattle.dc_tree.specs.Lists.{leaf_of, leaves_in}
use Rattle.dc_tree.specs.Parting.{middle}
use Rattle.dc_tree.proofs.Places.{split_within}
use Rattle.dc_tree.proofs.Searching.{split_there}
use Rattle.dc_tree.proofs.boxes.split_in.Goals as goal

pub index_mut-requires : goal.index_mut-requires
index_mut-requires c =
    let within = split_within (leaves_in c.args.leaves.now.items) c.args.place c.requires.may in
    grind (arith, common_steps, within, length-map c.args.leaves.now.items leaf_of)

pub overflow_add-place : goal.overflow_add-place
overflow_add-place c =
    let within = split_within (leaves_in c.args.leaves.now.items) c.args.place c.requires.may in
    grind (arith, common_steps, within, length-map c.args.leaves.now.items leaf_of)

pub insert-requires : goal.insert-requires
insert-requires c =
    let within = split_within (leaves_in c.args.leaves.now.items) c.args.place c.requires.may in
    grind (arith, common_steps, within, length-map c.args.leaves.now.items leaf_of)

pub returns : goal.returns
returns c =
    let xs = c.args.leaves.now.items in
    let p = c.args.place in
    let leaf : LeafView = get_or (leaves_in xs) p first in
    let within : p < length xs = omega (arith, split_within (leaves_in xs) p c.requires.may, length-map xs leaf_of) in
    let was : c.deref_mut.result.now ≡ leaf =
    c.deref_mut.ensures.value ∙ ap leaf_of c.index_mut.ensures.value
    ∙ sym (get_or-map leaf_of xs p c.index_mut.result.now first within) in
    let cut : c.drop_from.new.self ≡ lower_of leaf (middle leaf) c.args.split.right.value.last =
    c.drop_from.ensures ∙ rw (was, c.requires.half.cut, c.last.ensures, c.deref.ensures) refl in
    rw (c.in-Ok.ensures.items, add-one)
    (split_there leaf_of xs p c.args.split.right.value.id c.args.split.right.value.last
    (with_value c.index_mut.result.now c.drop_from.new.self) c.args.split.right leaf
    c.requires.may refl cut c.requires.half.right)
