-- Leaves that divide all keys among them: each begins where the one before it ends.
use Rattle.std.specs.Prelude.{◌≡◌, ℕ, Bool, true, List, [], ◌∷◌, Option, Some, None, MatchOption, map}
use Rattle.record_key.specs.Table.{Bytes}
use Rattle.record_key.specs.Order.{is_below, ends_above, is_between}
use Rattle.dc_leaf.specs.Leaf.{LeafView}

-- a leaf's number, and the keys that it has
pub record Part : Type 0 where
  pub id : ℕ
  pub low : Option Bytes
  pub high : Option Bytes

abbrev pub part_of : LeafView → Part
part_of leaf = record { id = leaf.id; low = leaf.low_fence; high = leaf.high_fence }

abbrev pub parts_of : List LeafView → List Part
parts_of leaves = map part_of leaves

-- the key lies in the part
abbrev pub holds : Bytes → Part → Bool
holds k p = is_between p.low p.high k

-- a key is strictly above a low fence
abbrev pub starts_below : Option Bytes → Bytes → Bool
starts_below None k = true
starts_below (Some low) k = is_below low k

-- a key at which the part may be cut, with keys on both sides
pub record IsInside (p : Part) (cut : Bytes) : Type 0 where
  pub above : starts_below p.low cut ≡ true
  pub under : ends_above p.high cut ≡ true

-- the parts have all keys from this fence on: each begins where the one before it ends, ends above where it
-- begins, and the last one alone has no end
abbrev pub TileFrom : Option Bytes → List Part → Type 0
TileFrom from [] = ⊥
TileFrom from (p ∷ ps) =
    (p.low ≡ from) × MatchOption p.high (ps ≡ []) (λ high. (starts_below p.low high ≡ true) × TileFrom (Some high) ps)

-- each key lies in just one of the parts, which stand in key order
abbrev pub Tile : List Part → Type 0
Tile ps = TileFrom None ps
