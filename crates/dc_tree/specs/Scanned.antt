-- What a walk over leaves in a row puts in a sink.
use Rattle.std.specs.Prelude.{◌≡◌, ℕ, Bool, true, false, not, List, [], ◌∷◌, ◌++◌, drop, Option, Some, None, if◌then◌else◌}
use Rattle.std.specs.FinMap as map
use Rattle.record_key.specs.Table.{Bytes}
use Rattle.record_key.specs.Order.{is_below, Range, rows_in}
use Rattle.record_key.specs.Rows.{Row}
use Rattle.dc_leaf.specs.Leaf.{LeafView}
use Rattle.dc_tree.specs.Finding.{IsPlaceOf}

-- a high fence is at or below the end of a range
abbrev pub ends_within : Option Bytes → Option Bytes → Bool
ends_within high None = true
ends_within None (Some end) = false
ends_within (Some fence) (Some end) = not (is_below end fence)

-- one of the leaves ends past the range
abbrev pub is_ended : Range → List LeafView → Bool
is_ended r [] = false
is_ended r (leaf ∷ leaves) = if ends_within leaf.high_fence r.hi then is_ended r leaves else true

-- the records of the leaves after the range's first one: all of each that ends within it, and of the next one those
-- in it
abbrev pub found_on : Range → List LeafView → List Row
found_on r [] = []
found_on r (leaf ∷ leaves) =
    if ends_within leaf.high_fence r.hi then map.entries leaf.rows ++ found_on r leaves else rows_in r leaf.rows

-- the records of the range's first leaf that are in it, and those of the leaves after it
abbrev pub found_from : Range → List LeafView → List Row
found_from r [] = []
found_from r (leaf ∷ leaves) =
    rows_in r leaf.rows ++ (if ends_within leaf.high_fence r.hi then found_on r leaves else [])

-- a sink has those too, and it is told whether a leaf ends past the range
pub record IsScannedOn (r : Range) (leaves : List LeafView) (old new : List Row) (ended : Bool) : Type 0 where
  pub rows : new ≡ old ++ found_on r leaves
  pub is : ended ≡ is_ended r leaves

-- the same from the last leaf on that begins at the range's first key or below
pub record IsScannedFrom (r : Range) (leaves : List LeafView) (old new : List Row) (ended : Bool) : Type 0 where
  pub place : ℕ
  pub at : IsPlaceOf leaves r.lo place
  pub rows : new ≡ old ++ found_from r (drop place leaves)
  pub is : ended ≡ is_ended r (drop place leaves)
