-- Rows that are written one after another: what the log leaves at each key, and how long it is.
use Rattle.std.proofs.Common.{◌≡◌, ℕ, ◌+◌, ◌*◌, Bool, true, false, cond, List, [], ◌∷◌, length, Option, Some, None, IsSome, is_some, refl, sym, ap, ◌∙◌, arith, inl, inr, true≢false}
use Rattle.std.specs.Prelude.{if◌then◌else◌}
use Rattle.std.specs.Option.{option_or}
use Rattle.std.specs.FinMap.{find, is_sorted}
use Rattle.std.specs.FinMap.Entries.{below_all}
use Rattle.std.specs.Ordering.{is_eq, is_lt}
use Rattle.std.specs.declared.cmp.Ordering.{Ordering}
use Rattle.std.specs.declared.cmp.Ordering.TheVariants.{Less, Equal, Greater}
use Rattle.std.proofs.lemmas.Bool.{cases_Bool, and_parts}
use Rattle.record_key.specs.declared.op.Op.TheVariants.{Insert}
use Rattle.record_key.specs.Laws.{key_cmp}
use Rattle.record_key.specs.Rows.{Row, AreInOrder}
use Rattle.record_key.specs.Table.{Bytes, value_after}
use Rattle.record_key.proofs.Tables.{is_same, is_same-refl, is_same-true}
use Rattle.history.specs.declared.record.Record.{Record}
use Rattle.history.specs.declared.record.Record.TheVariants as is
use Rattle.history.specs.Values.{value_on}
use Rattle.tc_rewriting.specs.Written.{with_row, with_rows, IsWriting, value_in, Lacks}
use Rattle.tc_rewriting.specs.Laws.{WritesAreRight}
use Rattle.tc_rewriting.proofs.Alone.{begin_writes, row_writes, commit_ends}

-- a key below all of the rows isn't among them
not_less : (r : Ordering) → is_lt r ≡ true → is_eq r ≡ false
not_less Less h = refl
not_less Equal h = absurd (true≢false (sym h))
not_less Greater h = refl

pub below_none : (k : Bytes) (rows : List Row) → below_all key_cmp k rows ≡ true → value_in rows k ≡ None
below_none k [] h = refl
below_none k (row ∷ rows) h =
    let parts = and_parts (is_lt (key_cmp k row.0)) (below_all key_cmp k rows) h in
    ap (λ b. cond b (Some row.1) (find key_cmp k rows)) (not_less (key_cmp k row.0) parts.0)
    ∙ below_none k rows parts.1

-- the value of a key after a row was inserted that wasn't there
put_there : (on : Bool) (v : Bytes) (was : Option Bytes) → (on ≡ true → was ≡ None)
    → (if on then value_after (Insert [] v) was else was) ≡ cond on (Some v) was
put_there true v was lacks = ap (value_after (Insert [] v)) (lacks refl)
put_there false v was lacks = refl

row_value : (log : List Record) (t prev : ℕ) (row : Row) (k : Bytes) → value_on row.0 log ≡ None
    → value_on k (with_row t prev row log) ≡ cond (is_same k row.0) (Some row.1) (value_on k log)
row_value log t prev row k lacks =
    put_there (is_same k row.0) row.1 (value_on k log)
    (λ on. ap (λ q. value_on q log) (is_same-true k row.0 on) ∙ lacks)

-- the first of the rows is lacked, and once it is there the others still are
pub first_lacked : (log : List Record) (row : Row) (rows : List Row) → Lacks log (row ∷ rows) → value_on row.0 log ≡ None
first_lacked log row rows lacks =
    lacks row.0 (ap (λ b. is_some (cond b (Some row.1) (find key_cmp row.0 rows))) (is_same-refl row.0))

-- of a key of the others: the first one is another
module _ (log : List Record) (t prev : ℕ) (row : Row) (rows : List Row)
    (below : below_all key_cmp row.0 rows ≡ true) (lacks : Lacks log (row ∷ rows)) where
  not_first : (k : Bytes) → IsSome (value_in rows k) → is_same k row.0 ≡ false
  not_first k some =
      elim (cases_Bool (is_same k row.0)) [
        | inl same ↦
            let none : value_in rows k ≡ None =
            ap (λ q. value_in rows q) (is_same-true k row.0 same) ∙ below_none row.0 rows below in
            absurd (true≢false (sym some ∙ ap is_some none))
        | inr other ↦ other
      ]

  pub others_lacked : Lacks (with_row t prev row log) rows
  others_lacked k some =
      let other = not_first k some in
      row_value log t prev row k (first_lacked log row rows lacks)
      ∙ ap (λ b. cond b (Some row.1) (value_on k log)) other
      ∙ lacks k (ap (λ b. is_some (cond b (Some row.1) (find key_cmp k rows))) other ∙ some)

-- a transaction that is alone writes rows
pub record Wrote (log : List Record) (t : ℕ) (rows : List Row) (new : List Record) : Type 0 where
  pub last : ℕ
  pub writing : IsWriting new t last
  pub values : (k : Bytes) → value_on k new ≡ option_or (value_in rows k) (value_on k log)
  pub count : length new ≡ length log + 2 * length rows

merged : (on : Bool) (v : Bytes) (later was : Option Bytes) → (on ≡ true → later ≡ None)
    → option_or later (cond on (Some v) was) ≡ option_or (cond on (Some v) later) was
merged true v later was none = ap (λ x. option_or x (Some v)) (none refl)
merged false v later was none = refl

pub rows_write : (rows : List Row) (log : List Record) (t prev : ℕ) → IsWriting log t prev → AreInOrder rows
    → Lacks log rows → Wrote log t rows (with_rows t prev rows log)
rows_write [] log t prev h sorted lacks =
    record { last = prev; writing = h; values = λ k. refl; count = omega arith }
rows_write (row ∷ rows) log t prev h sorted lacks =
    let parts = and_parts (below_all key_cmp row.0 rows) (is_sorted key_cmp rows) sorted in
    let first = first_lacked log row rows lacks in
    let wrote = rows_write rows (with_row t prev row log) t (length log + 1) (row_writes log t prev row h first) parts.1
    (others_lacked log t prev row rows parts.0 lacks) in
    record {
      last = wrote.last;
      writing = wrote.writing;
      values = λ k. wrote.values k ∙ ap (option_or (value_in rows k)) (row_value log t prev row k first)
          ∙ merged (is_same k row.0) row.1 (value_in rows k) (value_on k log)
          (λ on. ap (λ q. value_in rows q) (is_same-true k row.0 on) ∙ below_none row.0 rows parts.0);
      count = omega (arith, wrote.count);
    }

pub writes_are_right : WritesAreRight
writes_are_right log rows h sorted lacks =
    let wrote = rows_write rows (is.Begin ∷ log) (length log + 1) 0 (begin_writes log h) sorted lacks in
    record {
      ended = commit_ends (with_rows (length log + 1) 0 rows (is.Begin ∷ log)) (length log + 1) wrote.last wrote.writing;
      values = wrote.values;
      count = omega (arith, wrote.count);
    }
