use Rattle.std.proofs.Common.{◌<◌, take}
use Rattle.std.specs.List.{AllByRecursion}
use Rattle.dc_leaf.specs.Leaf.{LeafView}
use Rattle.dc_core.proofs.dc.Dc.none_hidden.Given as goal

-- the leaves so far have a low number below it
abbrev pub invariant-loop-place : goal.invariant-loop-place
invariant-loop-place g l =
    AllByRecursion (λ (leaf : LeafView). leaf.ab.low < l.number) (take l.place l.self-inside.system.leaves)
