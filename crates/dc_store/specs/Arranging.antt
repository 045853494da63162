-- Leaves in a row, and whether they have all keys.
use Rattle.std.specs.Prelude.{ℕ, ◌+◌, ◌≤◌, ◌==◌, ◌&&◌, Bool, true, false, not, List, [], ◌∷◌, Option, Some, None, is_some, if◌then◌else◌}
use Rattle.std.specs.Ordering.{is_eq}
use Rattle.record_key.specs.Table.{Bytes}
use Rattle.record_key.specs.Laws.{key_cmp}
use Rattle.dc_leaf.specs.Leaf.{LeafView}
use Rattle.dc_leaf.specs.Tiles.{parts_of, starts_below, Tile}
use Rattle.dc_recovery.specs.Laws.{IsIn}

-- they are one
abbrev pub is_same_fence : Option Bytes → Option Bytes → Bool
is_same_fence None None = true
is_same_fence (Some a) (Some b) = is_eq (key_cmp a b)
is_same_fence _ _ = false

-- the end of a leaf is above its beginning
abbrev pub ends_after : Option Bytes → Option Bytes → Bool
ends_after low None = true
ends_after low (Some high) = starts_below low high

-- where keys are left, the leaves have all of them from this fence on
abbrev pub tiles_on : Bool → Option Bytes → List LeafView → Bool
tiles_on left from [] = not left
tiles_on left from (leaf ∷ leaves) =
    if left && is_same_fence from leaf.low_fence && ends_after leaf.low_fence leaf.high_fence
    then tiles_on (is_some leaf.high_fence) leaf.high_fence leaves
    else false

-- how many leaves have this number
abbrev pub count_of : ℕ → List LeafView → ℕ
count_of id [] = 0
count_of id (leaf ∷ leaves) = (if leaf.id == id then 1 else 0) + count_of id leaves

-- no two leaves have one number
abbrev pub HaveOwnNumbers : List LeafView → Type 0
HaveOwnNumbers leaves = (id : ℕ) → count_of id leaves ≤ 1

-- the same leaves, maybe in another order
pub record AreSame (old new : List LeafView) : Type 0 where
  pub old_in : (leaf : LeafView) → IsIn leaf old → IsIn leaf new
  pub new_in : (leaf : LeafView) → IsIn leaf new → IsIn leaf old

-- the leaves in a row that has all keys
pub record IsArrangement (old new : List LeafView) : Type 0 where
  pub same : AreSame old new
  pub tile : Tile (parts_of new)
