use Rattle.std.proofs.Common.{◌≡◌, Box, None, refl, rules}
use Rattle.std.specs.declared.alloc.Global.{Global}
use Rattle.std.proofs.lemmas.List.Sorted.{IsPartitionPoint-from_clause}
use Rattle.dc_leaf.specs.Leaf.{LeafView}
use Rattle.dc_tree.specs.Leaves.{place_at}
use Rattle.dc_tree.specs.Lists.{leaf_of, leaves_in}
use Rattle.dc_tree.proofs.Searching.{lies_under, ends_rise, place_parted, there_in}
use Rattle.dc_tree.proofs.boxes.place_in.Goals as goal

place : (c : goal.After-partition_point)
    → c.partition_point.result ≡ place_at (leaves_in c.args.leaves.now) c.args.key.now
place c =
    let leaves = c.args.leaves.now in
    place_parted leaf_of None leaves c.args.key.now c.partition_point.result c.requires.tile refl
    (IsPartitionPoint-from_clause (lies_under leaf_of c.args.key.now) leaves c.partition_point.result
    c.partition_point.ensures.partitioned
    (ends_rise leaf_of None leaves c.args.key.now c.requires.tile) (λ a r g called. search rules))
    c.partition_point.ensures.bound

pub returns-clause-place : goal.returns-clause-place
returns-clause-place c = place c

pub returns-clause-within : goal.returns-clause-within
returns-clause-within c =
    rw (place c) (there_in (λ (b : Box LeafView Global). b.value) c.args.leaves.now c.args.key.now c.requires)
