-- A table as the list of its rows in key order, and the place of a key among them.
use Rattle.std.specs.Prelude.{ℕ, Bool, IsTrue, List, Option, Result}
use Rattle.std.specs.List.{AllByRecursion}
use Rattle.std.specs.FinMap as map
use Rattle.record_key.specs.Table.{Bytes, Table}
use Rattle.record_key.specs.Laws.{key_cmp}
use Rattle.record_key.specs.Order.{is_between}
use Rattle.record_key.specs.Places.{StandsAt, BelongsAt, IsPlace}

abbrev pub Row : Type 0
Row = Bytes × Bytes

-- the table of rows that are in key order
abbrev pub table_of : List Row → Table
table_of rows = map.from_sorted rows

-- whether keys strictly rise
abbrev pub rises : List Row → Bool
rises rows = map.is_sorted key_cmp rows

abbrev pub AreInOrder : List Row → Type 0
AreInOrder rows = IsTrue (rises rows)

-- each key lies between the fences
abbrev pub LieBetween : Option Bytes → Option Bytes → List Row → Type 0
LieBetween low high rows = AllByRecursion (λ (row : Row). IsTrue (is_between low high row.0)) rows

-- the row at this place has the key, and those before it have lower ones
abbrev pub IsAt : Bytes → List Row → ℕ → Type 0
IsAt k rows p = StandsAt (λ (row : Row). key_cmp k row.0) rows p

-- no row has the key, and it belongs at this place
abbrev pub IsGapFor : Bytes → List Row → ℕ → Type 0
IsGapFor k rows p = BelongsAt (λ (row : Row). key_cmp k row.0) rows p

-- the key's row stands there, or it would go there
abbrev pub IsPlaceOf : Bytes → List Row → Result ℕ ℕ → Type 0
IsPlaceOf k rows place = IsPlace (λ (row : Row). key_cmp k row.0) rows place
