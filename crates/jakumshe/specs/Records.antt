-- What the room of C's holds.
use Rattle.std.specs.Prelude.{◌≡◌, ◌⊎◌, ℕ, List, [], ◌∷◌, ◌++◌, length, take, reverse, Option, None, Some, Result, Ok, Err}
use Rattle.record_key.specs.Rows.{Row}
use Rattle.jakumshe.specs.declared.fault.Fault.{Fault}
use Rattle.jakumshe.specs.declared.records.KeyBytes.{KeyBytes}
use Rattle.jakumshe.specs.declared.records.ValueBytes.{ValueBytes}
use Rattle.jakumshe.specs.declared.records.RowBytes.{RowBytes}

-- these bytes are the key's, or there is none
abbrev pub HoldsKey : KeyBytes → Option (List ℕ) → Type 0
HoldsKey b None = b.length ≡ 0
HoldsKey b (Some key) = (b.length ≡ length key) × (take (length key) b.bytes ≡ key)

-- these bytes are the value's
abbrev pub HoldsValue : ValueBytes → List ℕ → Type 0
HoldsValue b value = (b.length ≡ length value) × (take (length value) b.bytes ≡ value)

abbrev pub HoldsRow : RowBytes → List ℕ → List ℕ → Type 0
HoldsRow b key value =
    (b.key_length ≡ length key) × (take (length key) b.key ≡ key)
    × (b.value_length ≡ length value) × (take (length value) b.value ≡ value)

-- there is the value that was found, or what was there before
abbrev pub PutsValue : Result (List ℕ) Fault → ValueBytes → ValueBytes → Type 0
PutsValue (Ok value) before after = HoldsValue after value
PutsValue (Err fault) before after = after ≡ before

-- there is this key, or what was there before where the call gives nothing
abbrev pub PutsKey : Result ℕ Fault → Option (List ℕ) → KeyBytes → KeyBytes → Type 0
PutsKey (Ok count) key before after = HoldsKey after key
PutsKey (Err fault) key before after = after ≡ before

-- the first ones hold these rows
abbrev pub HoldRows : List RowBytes → List Row → Type 0
HoldRows bs [] = Unit {0}
HoldRows [] (row ∷ rows) = ⊥
HoldRows (b ∷ bs) (row ∷ rows) = HoldsRow b row.0 row.1 × HoldRows bs rows

-- of rows that are kept the last one first, so many next ones are given
pub record GivesRows (before after : List Row) (room : List RowBytes) (count : ℕ) : Type 0 where
  pub rows : List Row
  pub next : reverse before ≡ rows ++ reverse after
  pub held : HoldRows room rows
  pub counted : count ≡ length rows

-- as many as there is room for, or all
abbrev pub IsPageOfRows : List Row → List Row → List RowBytes → ℕ → Type 0
IsPageOfRows before after room count = GivesRows before after room count × ((count ≡ length room) ⊎ (after ≡ []))
