use Rattle.std.proofs.Common.{arith}
use Rattle.dc_tree.proofs.Places.{merge_within}
use Rattle.dc_store.proofs.parting.pair_within.Goals as goal

pub leaf-requires : goal.leaf-requires
leaf-requires g c = omega (arith, merge_within _ c.args.place c.requires.pair)

pub leaf-requires-then-is_within : goal.leaf-requires-then-is_within
leaf-requires-then-is_within g c = merge_within _ c.args.place c.requires.pair
