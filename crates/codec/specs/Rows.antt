-- Rows, and their one spelling.
use Rattle.std.specs.Prelude.{ℕ, ◌<◌, ◌^◌, ◌==◌, Bool, List, ◌++◌, length}
use Rattle.std.specs.List.{AllByRecursion}
use Rattle.std.specs.Cmp.Lexicographic.{pointwise}
use Rattle.std.specs.Ordering.{eq_of_both, on}
use Rattle.record_key.specs.Rows.{Row, AreInOrder}
use Rattle.codec.specs.Fields.{text, IsKey, IsValue, counted}

-- whether both have the same rows
abbrev pub same_row : Row → Row → Bool
same_row = eq_of_both (on (λ r. r.0) (pointwise ◌==◌)) (on (λ r. r.1) (pointwise ◌==◌))

abbrev pub same_rows : List Row → List Row → Bool
same_rows = pointwise same_row

-- a key, then a value
abbrev pub row_bytes : Row → List ℕ
row_bytes row = text row.0 ++ text row.1

abbrev pub IsRow : Row → Type 0
IsRow row = IsKey row.0 × IsValue row.1

-- how many, then each
unfoldable pub rows_bytes : List Row → List ℕ
rows_bytes rows = counted row_bytes rows

-- what has a spelling
abbrev pub AreRows : List Row → Type 0
AreRows rows = ((length rows < 2 ^ 64) × AllByRecursion IsRow rows) × AreInOrder rows
