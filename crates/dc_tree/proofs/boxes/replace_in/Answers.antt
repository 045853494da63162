use Rattle.std.proofs.Common.{arith}
use Rattle.std.proofs.lemmas.Grind.{common_steps}
use Rattle.std.proofs.lemmas.List.{length-map, map-set}
use Rattle.dc_tree.specs.Lists.{leaf_of}
use Rattle.dc_tree.proofs.boxes.replace_in.Goals as goal

pub index_mut-requires : goal.index_mut-requires
index_mut-requires c = grind (arith, common_steps, c.requires, length-map c.args.leaves.now.items leaf_of)

pub returns : goal.returns
returns c = map-set leaf_of c.args.leaves.now.items c.args.place c.args.leaf
