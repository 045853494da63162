-- Leaves that are replaced, one after another.
use Rattle.std.specs.Prelude.{◌≡◌, ◌<◌, List, [], ◌∷◌, length, get_or, set}
use Rattle.std.specs.List.{AllByRecursion}
use Rattle.dc_leaf.specs.Leaf.{LeafView, first}
use Rattle.dc_store.specs.declared.taking_back.Replacement.{Replacement}

abbrev pub replaced : List LeafView → List Replacement → List LeafView
replaced leaves [] = leaves
replaced leaves (r ∷ rs) = replaced (set leaves r.place r.leaf.value) rs

-- there is a leaf at its place, with the same fences
pub record FitsFences (leaves : List LeafView) (r : Replacement) : Type 0 where
  pub there : r.place < length leaves
  pub low : r.leaf.value.low_fence ≡ (get_or leaves r.place first).low_fence
  pub high : r.leaf.value.high_fence ≡ (get_or leaves r.place first).high_fence

abbrev pub AllFit : List LeafView → List Replacement → Type 0
AllFit leaves rs = AllByRecursion (FitsFences leaves) rs
