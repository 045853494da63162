-- What a write at a known place does to the table.
use Rattle.std.proofs.Common.{◌≡◌, ℕ, zero, suc, List, [], ◌∷◌, get_or, set, Option, Result, Ok, Err, Some, None, refl, sym, ap, ◌∙◌}
use Rattle.std.specs.List.{AllByRecursion, insert, remove}
use Rattle.std.specs.FinMap as map
use Rattle.record_key.specs.declared.op.Op.{Op}
use Rattle.record_key.specs.declared.op.Op.TheVariants.{Insert, Update, Upsert, Delete, Add}
use Rattle.record_key.specs.Amounts.{summed}
use Rattle.record_key.specs.Table.{Bytes, key_of, add_value, value_after, after, with_record}
use Rattle.record_key.specs.Rows.{Row, AreInOrder, IsPlaceOf, table_of}
use Rattle.record_key.proofs.Tables.{after-idle}
use Rattle.record_key.proofs.Rows.{inserted, replaced, removed, found, absent}
use Rattle.dc_leaf.specs.Places.{rows_after, rows_with_sum}

-- what all rows have and a new one too, all have where it came to them, or where one went
all_inserted : (P : Row → Type 0) (rows : List Row) (p : ℕ) (row : Row) → AllByRecursion P rows → P row
    → AllByRecursion P (insert rows p row)
all_inserted P rows zero row all new = (new, all)
all_inserted P [] (suc p) row all new = (new, tt)
all_inserted P (r ∷ rows) (suc p) row all new = (all.0, all_inserted P rows p row all.1 new)

all_set : (P : Row → Type 0) (rows : List Row) (p : ℕ) (row : Row) → AllByRecursion P rows → P row
    → AllByRecursion P (set rows p row)
all_set P [] p row all new = tt
all_set P (r ∷ rows) zero row all new = (new, all.1)
all_set P (r ∷ rows) (suc p) row all new = (all.0, all_set P rows p row all.1 new)

all_removed : (P : Row → Type 0) (rows : List Row) (p : ℕ) → AllByRecursion P rows → AllByRecursion P (remove rows p)
all_removed P [] zero all = tt
all_removed P [] (suc p) all = tt
all_removed P (r ∷ rows) zero all = all.1
all_removed P (r ∷ rows) (suc p) all = (all.0, all_removed P rows p all.1)

all_summed : (P : Bytes → Type 0) (rows : List Row) (at : ℕ) (k : Bytes) (sum : Option Bytes)
    → AllByRecursion (λ (row : Row). P row.0) rows → P k
    → AllByRecursion (λ (row : Row). P row.0) (rows_with_sum rows at k sum)
all_summed P rows at k None all new = all
all_summed P rows at k (Some sum) all new = all_set (λ (row : Row). P row.0) rows at (k, sum) all new

-- what all keys have and the operation's too, all have afterwards
pub all_written : (P : Bytes → Type 0) (rows : List Row) (o : Op) (place : Result ℕ ℕ)
    → AllByRecursion (λ (row : Row). P row.0) rows
    → P (key_of o) → AllByRecursion (λ (row : Row). P row.0) (rows_after o place rows)
all_written P rows (Insert k v) (Ok at) all new = all
all_written P rows (Insert k v) (Err gap) all new = all_inserted (λ (row : Row). P row.0) rows gap (k, v) all new
all_written P rows (Update k v) (Ok at) all new = all_set (λ (row : Row). P row.0) rows at (k, v) all new
all_written P rows (Update k v) (Err gap) all new = all
all_written P rows (Upsert k v) (Ok at) all new = all_set (λ (row : Row). P row.0) rows at (k, v) all new
all_written P rows (Upsert k v) (Err gap) all new = all_inserted (λ (row : Row). P row.0) rows gap (k, v) all new
all_written P rows (Delete k) (Ok at) all new = all_removed (λ (row : Row). P row.0) rows at all
all_written P rows (Delete k) (Err gap) all new = all
all_written P rows (Add k x) (Ok at) all new = all_summed P rows at k (summed (get_or rows at ([], [])).1 x) all new
all_written P rows (Add k x) (Err gap) all new = all

-- the rows are in order, and are those of the table after the operation
pub record Writes (old new : List Row) (o : Op) : Type 0 where
  pub ordered : AreInOrder new
  pub table : table_of new ≡ after (table_of old) o

-- an operation that writes this, where it finds what stands there
written : (rows new : List Row) (o : Op) (r : Option Bytes) → map.get (table_of rows) (key_of o) ≡ r
    → AreInOrder new × (table_of new ≡ with_record (table_of rows) (key_of o) (value_after o r)) → Writes rows new o
written rows new o r is done = record {
  ordered = done.0;
  table = done.1 ∙ ap (λ x. with_record (table_of rows) (key_of o) (value_after o x)) (sym is);
}

idle : (rows : List Row) (o : Op) (r : Option Bytes) → AreInOrder rows → map.get (table_of rows) (key_of o) ≡ r
    → value_after o r ≡ r → Writes rows rows o
idle rows o r ordered is same = record { ordered = ordered; table = after-idle (table_of rows) o r (sym is) same }

-- an Add writes the sum, or finds no number
sum_written : (rows : List Row) (k v : Bytes) (x at : ℕ) (sum : Option Bytes) → AreInOrder rows
    → IsPlaceOf k rows (Ok at)
    → map.get (table_of rows) k ≡ Some v → summed v x ≡ sum → Writes rows (rows_with_sum rows at k sum) (Add k x)
sum_written rows k v x at None ordered is found none =
    idle rows (Add k x) (Some v) ordered found (ap (λ s. Some (add_value v s)) none)
sum_written rows k v x at (Some sum) ordered is found some =
    let done = replaced rows ordered k at sum is in
    written rows _ (Add k x) (Some v) found (
      done.0,
      done.1 ∙ ap (λ s. with_record (table_of rows) k (Some (add_value v s))) (sym some),
    )

pub writes : (rows : List Row) (o : Op) (place : Result ℕ ℕ) → AreInOrder rows → IsPlaceOf (key_of o) rows place
    → Writes rows (rows_after o place rows) o
writes rows (Insert k v) (Ok at) ordered is =
    idle rows (Insert k v) _ ordered (found rows ordered k at ([], []) is) refl
writes rows (Insert k v) (Err gap) ordered is =
    written rows _ (Insert k v) None (absent rows ordered k gap is) (inserted rows ordered k gap v is)
writes rows (Update k v) (Ok at) ordered is =
    written rows _ (Update k v) (Some _) (found rows ordered k at ([], []) is) (replaced rows ordered k at v is)
writes rows (Update k v) (Err gap) ordered is = idle rows (Update k v) None ordered (absent rows ordered k gap is) refl
writes rows (Upsert k v) (Ok at) ordered is =
    written rows _ (Upsert k v) (Some _) (found rows ordered k at ([], []) is) (replaced rows ordered k at v is)
writes rows (Upsert k v) (Err gap) ordered is =
    written rows _ (Upsert k v) None (absent rows ordered k gap is) (inserted rows ordered k gap v is)
writes rows (Delete k) (Ok at) ordered is =
    written rows _ (Delete k) (Some _) (found rows ordered k at ([], []) is) (removed rows ordered k at is)
writes rows (Delete k) (Err gap) ordered is = idle rows (Delete k) None ordered (absent rows ordered k gap is) refl
writes rows (Add k x) (Ok at) ordered is =
    sum_written rows k _ x at _ ordered is (found rows ordered k at ([], []) is) refl
writes rows (Add k x) (Err gap) ordered is = idle rows (Add k x) None ordered (absent rows ordered k gap is) refl
