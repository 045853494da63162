use Rattle.std.proofs.Common.{◌≡◌, drop}
use Rattle.dc_leaf.specs.Tops.{all_within}
use Rattle.dc_store.proofs.writing.all_within.Given as goal

-- no leaf before the place has one
abbrev pub invariant-loop-place : goal.invariant-loop-place
invariant-loop-place g l =
    all_within l.known (g.L.LeafSet.leaves l.leaves) ≡ all_within l.known (drop l.place (g.L.LeafSet.leaves l.leaves))
