use Rattle.std.proofs.Common.{◌≡◌}
use Rattle.std.specs.Vec.Iter.{into_iter_items}
use Rattle.dc_store.specs.Replacing.{replaced, AllFit}
use Rattle.dc_store.proofs.taking_back.replace_all.Given as goal

-- those that are left fit, and leave what all do
abbrev pub invariant-loop-replacement : goal.invariant-loop-replacement
invariant-loop-replacement g l =
    AllFit (g.L.LeafSet.leaves l.leaves) (into_iter_items l.replacement-iterator)
    × (replaced (g.L.LeafSet.leaves l.leaves) (into_iter_items l.replacement-iterator)
    ≡ replaced (g.L.LeafSet.leaves l.fn.leaves) l.fn.replacements.items)
