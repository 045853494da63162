use Rattle.std.proofs.Common.{◌≡◌, true, None, drop}
use Rattle.std.specs.Option.{option_copied}
use Rattle.dc_tree.specs.Lists.{leaves_in}
use Rattle.dc_store.specs.Arranging.{tiles_on}
use Rattle.dc_store.proofs.arranging.have_all_keys.Given as goal

-- what is left goes on from the leaves so far
abbrev pub invariant-loop-leaf : goal.invariant-loop-leaf
invariant-loop-leaf l =
    tiles_on l.left (option_copied l.from) (leaves_in (drop l.leaf-index l.leaves))
    ≡ tiles_on true None (leaves_in l.leaves)
