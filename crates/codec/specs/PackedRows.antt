-- Rows as their bytes, one row after another.
use Rattle.std.specs.Prelude.{◌≡◌, ℕ, zero, suc, List, [], ◌∷◌, get_or, length, take, drop, ◌<◌, ◌≤◌, ◌+◌}
use Rattle.std.specs.List.{flat_map, AllByRecursion}
use Rattle.record_key.specs.Table.{Bytes}
use Rattle.record_key.specs.Rows.{Row}
use Rattle.codec.specs.Rows.{row_bytes, IsRow}

-- the key or the value that bytes begin with, and what follows it
abbrev pub first_text : List ℕ → Bytes
first_text bytes = take (get_or bytes 0 0) (drop 1 bytes)

abbrev pub after_text : List ℕ → List ℕ
after_text bytes = drop (get_or bytes 0 0) (drop 1 bytes)

-- so many rows that bytes begin with
unfoldable pub rows_spelled : ℕ → List ℕ → List Row
rows_spelled zero bytes = []
rows_spelled (suc n) bytes =
    (first_text bytes, first_text (after_text bytes)) ∷ rows_spelled n (after_text (after_text bytes))

-- a key or a value stands there, and a byte of its length before it
abbrev pub HasText : List ℕ → Type 0
HasText bytes = (0 < length bytes) × (1 + get_or bytes 0 0 ≤ length bytes)

-- the bytes are those of the rows and no others, and each row has a spelling
pub record ArePacked (rows : List Row) (bytes : List ℕ) : Type 0 where
  pub spelled : bytes ≡ flat_map row_bytes rows
  pub each : AllByRecursion IsRow rows

-- rows, and for how many bytes more there is room
pub record RowsWithRoom : Type 0 where
  pub rows : List Row
  pub room : ℕ
