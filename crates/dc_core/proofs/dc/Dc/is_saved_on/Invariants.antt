use Rattle.std.proofs.Common.{take}
use Rattle.std.specs.List.{AllByRecursion}
use Rattle.dc_leaf.specs.Leaf.{LeafView}
use Rattle.dc_core.specs.Shows.{IsOn}
use Rattle.dc_core.proofs.dc.Dc.is_saved_on.Given as goal

-- the entries of the leaves so far have it on the key
abbrev pub invariant-loop-place : goal.invariant-loop-place
invariant-loop-place g l =
    AllByRecursion (λ (leaf : LeafView). AllByRecursion (IsOn l.number l.key) leaf.ab.entries)
    (take l.place l.self-inside.system.leaves)
