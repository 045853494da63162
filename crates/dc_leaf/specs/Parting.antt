-- A leaf parted at a key, and two neighbours put together.
use Rattle.std.specs.Prelude.{◌≡◌, ℕ, true, ◌++◌, Some}
use Rattle.std.specs.FinMap as map
use Rattle.record_key.specs.Table.{Bytes}
use Rattle.record_key.specs.Order.{starts_at_most, ends_above}
use Rattle.record_key.specs.Rows.{table_of}
use Rattle.dc_ab_lsn.specs.Parting.{is_under, is_from, cut_under, cut_from, joined_with}
use Rattle.dc_leaf.specs.Leaf.{LeafView}

-- what stands at or above the key, as a leaf of its own with this number
abbrev pub upper_of : LeafView → Bytes → ℕ → ℕ → LeafView
upper_of leaf k id d = record {
  id = id;
  last = d;
  low_fence = Some k;
  high_fence = leaf.high_fence;
  rows = map.retain_keys leaf.rows (is_from k);
  ab = cut_from leaf.ab k;
}

-- what is left below the key
abbrev pub lower_of : LeafView → Bytes → ℕ → LeafView
lower_of leaf k d =
    record leaf {
      last = d;
      high_fence = Some k;
      rows = map.retain_keys leaf.rows (is_under k);
      ab = cut_under leaf.ab k;
    }

-- the second leaf begins where the first ends, above where the first begins and below where the second ends
pub record AreNeighbours (left right : LeafView) : Type 0 where
  pub fence : Bytes
  pub ends : left.high_fence ≡ Some fence
  pub begins : right.low_fence ≡ Some fence
  pub above : starts_at_most left.low_fence fence ≡ true
  pub below : ends_above right.high_fence fence ≡ true

-- the leaf of both: the rows of the first and then those of the second
abbrev pub joined_of : LeafView → LeafView → ℕ → LeafView
joined_of left right d = record left {
  last = d;
  high_fence = right.high_fence;
  rows = table_of (map.entries left.rows ++ map.entries right.rows);
  ab = joined_with left.ab right.ab;
}
