-- What an operation does to sorted rows, where its key's place is known.
use Rattle.std.specs.Prelude.{◌≡◌, ℕ, zero, suc, true, false, List, [], ◌∷◌, get_or, length, ◌+◌, Option, Some, None, Result, Ok, Err, insert, remove, slice_set}
use Rattle.record_key.specs.declared.op.Op.{Op}
use Rattle.record_key.specs.declared.op.Op.TheVariants.{Insert, Update, Upsert, Delete, Add}
use Rattle.record_key.specs.Amounts.{summed}
use Rattle.record_key.specs.Table.{Bytes}
use Rattle.record_key.specs.Rows.{Row}
use Rattle.record_key.specs.Order.{is_below}

-- the rows before this place are those below the key
abbrev pub IsStartFor : Bytes → List Row → ℕ → Type 0
IsStartFor k [] p = p ≡ 0
IsStartFor k (row ∷ rows) zero = is_below row.0 k ≡ false
IsStartFor k (row ∷ rows) (suc p) = (is_below row.0 k ≡ true) × IsStartFor k rows p

-- with the sum at a place, where there is one
abbrev pub rows_with_sum : List Row → ℕ → Bytes → Option Bytes → List Row
rows_with_sum rows at k None = rows
rows_with_sum rows at k (Some sum) = slice_set rows at (k, sum)

abbrev pub rows_after : Op → Result ℕ ℕ → List Row → List Row
rows_after (Insert k v) (Ok at) rows = rows
rows_after (Insert k v) (Err gap) rows = insert rows gap (k, v)
rows_after (Update k v) (Ok at) rows = slice_set rows at (k, v)
rows_after (Update k v) (Err gap) rows = rows
rows_after (Upsert k v) (Ok at) rows = slice_set rows at (k, v)
rows_after (Upsert k v) (Err gap) rows = insert rows gap (k, v)
rows_after (Delete k) (Ok at) rows = remove rows at
rows_after (Delete k) (Err gap) rows = rows
rows_after (Add k x) (Ok at) rows = rows_with_sum rows at k (summed (get_or rows at ([], [])).1 x)
rows_after (Add k x) (Err gap) rows = rows

-- the most bytes by which an operation lengthens the rows: those of a row with its value, whose sum has eight
abbrev pub room_for : Op → ℕ
room_for (Insert k v) = 2 + (length k + length v)
room_for (Update k v) = 2 + (length k + length v)
room_for (Upsert k v) = 2 + (length k + length v)
room_for (Delete k) = 0
room_for (Add k x) = 2 + (length k + 8)
