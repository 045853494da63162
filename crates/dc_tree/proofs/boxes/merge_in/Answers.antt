use Rattle.std.proofs.Common.{arith, add-one}
use Rattle.std.proofs.lemmas.List.{length-map}
use Rattle.std.proofs.lemmas.Grind.{common_steps}
use Rattle.dc_tree.specs.Lists.{leaf_of, leaves_in}
use Rattle.dc_tree.proofs.Places.{merge_within}
use Rattle.dc_tree.proofs.Searching.{merge_there}
use Rattle.dc_tree.proofs.boxes.merge_in.Goals as goal

pub index_mut-requires : goal.index_mut-requires
index_mut-requires c =
    let within = merge_within (leaves_in c.args.leaves.now.items) c.args.place c.requires.may in
    grind (arith, common_steps, within, length-map c.args.leaves.now.items leaf_of)

pub overflow_add-place : goal.overflow_add-place
overflow_add-place c =
    let within = merge_within (leaves_in c.args.leaves.now.items) c.args.place c.requires.may in
    grind (arith, common_steps, within, length-map c.args.leaves.now.items leaf_of)

pub remove-requires : goal.remove-requires
remove-requires c =
    let within = merge_within (leaves_in c.args.leaves.now.items) c.args.place c.requires.may in
    grind (arith, common_steps, within, length-map c.args.leaves.now.items leaf_of)

pub returns : goal.returns
returns c =
    rw (c.remove.ensures.items, add-one)
    (merge_there leaf_of c.args.leaves.now.items c.args.place c.args.merge.merged.value.last c.args.merge.merged
    c.requires.may
    (rw add-one at c.requires.both.merged))
