-- The bytes of rows where some of them give their place to others.
use Rattle.std.proofs.Common.{◌≡◌, ℕ, zero, suc, ◌+◌, ◌-◌, ◌<◌, ◌≤◌, List, [], ◌∷◌, ◌++◌, length, take, drop, get_or, set, refl, sym, ap, ◌∙◌, arith, append_assoc}
use Rattle.std.specs.List.{flat_map, AllByRecursion, insert, remove}
use Rattle.std.proofs.lemmas.Grind.{flat_map-append}
use Rattle.std.proofs.lemmas.List.{length-append, length-take-le, take_at, take-append-drop, drop-drop, drop_at, drop_more, length-drop, set_split}
use Rattle.std.proofs.lemmas.List.Concat.{flat_map-cons}
use Rattle.record_key.specs.Rows.{Row}
use Rattle.codec.specs.Fields.{text}
use Rattle.codec.specs.Rows.{row_bytes, IsRow}
use Rattle.codec.specs.PackedRows.{rows_spelled, ArePacked}
use Rattle.codec.proofs.PackedRows.{length-spelled, spells, packs, all_both, all_take, rows_few}

abbrev spelled : List Row → List ℕ
spelled rows = flat_map row_bytes rows

-- how many bytes the rows before a place take
abbrev pub start : ℕ → List Row → ℕ
start at rows = length (spelled (take at rows))

in_two : (at : ℕ) (rows : List Row) → spelled rows ≡ spelled (take at rows) ++ spelled (drop at rows)
in_two at rows = ap spelled (sym (take-append-drop at rows)) ∙ flat_map-append row_bytes (take at rows) (drop at rows)

start_is : (at : ℕ) (rows : List Row) → start at rows ≡ length (spelled rows) - length (spelled (drop at rows))
start_is at rows = omega (
  arith,
  ap length (in_two at rows),
  length-append (spelled (take at rows)) (spelled (drop at rows)),
)

start_within : (at : ℕ) (rows : List Row) → start at rows ≤ length (spelled rows)
start_within at rows = omega (
  arith,
  ap length (in_two at rows),
  length-append (spelled (take at rows)) (spelled (drop at rows)),
)

before_start : (at : ℕ) (rows : List Row) → take (start at rows) (spelled rows) ≡ spelled (take at rows)
before_start at rows =
    ap (take (start at rows)) (in_two at rows)
    ∙ take_at (spelled (take at rows)) (spelled (drop at rows)) (start at rows) refl

from_start : (at : ℕ) (rows : List Row) → drop (start at rows) (spelled rows) ≡ spelled (drop at rows)
from_start at rows =
    ap (drop (start at rows)) (in_two at rows)
    ∙ drop_at (spelled (take at rows)) (spelled (drop at rows)) (start at rows) refl

all_drop : (at : ℕ) (rows : List Row) → AllByRecursion IsRow rows → AllByRecursion IsRow (drop at rows)
all_drop zero rows each = each
all_drop (suc at) [] each = tt
all_drop (suc at) (row ∷ rows) each = all_drop at rows each.1

-- the rows between two places give theirs to others
abbrev pub edited : ℕ → ℕ → List Row → List Row → List Row
edited a b mid rows = take a rows ++ (mid ++ drop b rows)

edited_bytes : (a b : ℕ) (mid rows : List Row)
    → take (start a rows) (spelled rows) ++ (spelled mid ++ drop (start b rows) (spelled rows))
    ≡ spelled (edited a b mid rows)
edited_bytes a b mid rows =
    (λ i. before_start a rows i ++ (spelled mid ++ from_start b rows i))
    ∙ ap (λ (more : List ℕ). spelled (take a rows) ++ more) (sym (flat_map-append row_bytes mid (drop b rows)))
    ∙ sym (flat_map-append row_bytes (take a rows) (mid ++ drop b rows))

edited_each : (a b : ℕ) (mid rows : List Row) → AllByRecursion IsRow rows → AllByRecursion IsRow mid
    → AllByRecursion IsRow (edited a b mid rows)
edited_each a b mid rows each more =
    all_both (take a rows) (mid ++ drop b rows) (all_take a rows each)
    (all_both mid (drop b rows) more (all_drop b rows each))

one_row : (row : Row) → spelled (row ∷ []) ≡ row_bytes row
one_row row = flat_map-cons row_bytes row [] ∙ append_nil (row_bytes row)
  where
    append_nil : (xs : List ℕ) → xs ++ [] ≡ xs
    append_nil [] = refl
    append_nil (x ∷ xs) = ap (λ (l : List ℕ). x ∷ l) (append_nil xs)

row_edited : (a b : ℕ) (row : Row) (rows : List Row)
    → take (start a rows) (spelled rows) ++ (row_bytes row ++ drop (start b rows) (spelled rows))
    ≡ spelled (edited a b (row ∷ []) rows)
row_edited a b row rows =
    ap (λ (mid : List ℕ). take (start a rows) (spelled rows) ++ (mid ++ drop (start b rows) (spelled rows)))
    (sym (one_row row))
    ∙ edited_bytes a b (row ∷ []) rows

inserted : (rows : List Row) (at : ℕ) (row : Row) → at ≤ length rows
    → insert rows at row ≡ edited at at (row ∷ []) rows
inserted rows zero row within = refl
inserted [] (suc at) row within = absurd (omega (arith, within))
inserted (r ∷ rows) (suc at) row within =
    ap (λ (more : List Row). r ∷ more) (inserted rows at row (omega (arith, within)))

replaced : (rows : List Row) (at : ℕ) (row : Row) → at < length rows
    → set rows at row ≡ edited at (at + 1) (row ∷ []) rows
replaced rows at row within =
    set_split rows at row within
    ∙ (let next : suc at ≡ at + 1 = omega arith in ap (λ (k : ℕ). take at rows ++ row ∷ drop k rows) next)

without_row : (rows : List Row) (at : ℕ) → at < length rows → remove rows at ≡ edited at (suc at) [] rows
without_row [] at within = absurd (omega (arith, within))
without_row (r ∷ rows) zero within = refl
without_row (r ∷ rows) (suc at) within =
    ap (λ (more : List Row). r ∷ more) (without_row rows at (omega (arith, within)))

removed : (rows : List Row) (at : ℕ) → at < length rows → remove rows at ≡ edited at (at + 1) [] rows
removed rows at within =
    without_row rows at within
    ∙ (let next : suc at ≡ at + 1 = omega arith in ap (λ (k : ℕ). edited at k [] rows) next)

edited_len : (a b : ℕ) (mid rows : List Row) → a ≤ b → b ≤ length rows
    → length (edited a b mid rows) ≡ a + length mid + (length rows - b)
edited_len a b mid rows less within = omega (
  arith,
  length-append (take a rows) (mid ++ drop b rows),
  length-append mid (drop b rows),
  length-take-le a rows (omega (arith, less, within)),
  length-drop b rows,
)

-- ---- what packed rows are once they are changed

-- these bytes are so many rows, which are those
pub record Holds (count : ℕ) (bytes : List ℕ) (rows : List Row) : Type 0 where
  pub packed : ArePacked (rows_spelled count bytes) bytes
  pub spelled : rows_spelled count bytes ≡ rows
  pub few : count ≤ length bytes

holds : (rows : List Row) (count : ℕ) (bytes : List ℕ) → bytes ≡ spelled rows → count ≡ length rows
    → AllByRecursion IsRow rows → Holds count bytes rows
holds rows count bytes are counted each = record {
  packed = packs rows count bytes are counted each;
  spelled = spells rows count bytes are counted;
  few = omega (arith, counted, ap length are, rows_few rows);
}

module _ (count : ℕ) (bytes : List ℕ) (h : ArePacked (rows_spelled count bytes) bytes) where
  abbrev old : List Row
  old = rows_spelled count bytes

  old_len : length old ≡ count
  old_len = length-spelled count bytes

  pub start_fits : (at : ℕ) → start at old ≤ length bytes
  start_fits at = omega (arith, start_within at old, ap length h.spelled)

  pub start_left : (at : ℕ) → start at old ≡ length bytes - length (spelled (drop at old))
  start_left at = start_is at old ∙ ap (λ (b : List ℕ). length b - length (spelled (drop at old))) (sym h.spelled)

  pub left_fits : (at : ℕ) → length (spelled (drop at old)) ≤ length bytes
  left_fits at = omega (
    arith,
    ap length h.spelled,
    ap length (in_two at old),
    length-append (spelled (take at old)) (spelled (drop at old)),
  )

  pub next_start : (at : ℕ) → at < length old → start at old ≤ start (at + 1) old
  next_start at within = omega (
    arith,
    start_is at old,
    start_is (at + 1) old,
    left_fits at,
    ap length h.spelled,
    ap length (ap spelled (drop_more old at ([], []) within)),
    ap length (flat_map-cons row_bytes (get_or old at ([], [])) (drop (at + 1) old)),
    length-append (row_bytes (get_or old at ([], []))) (spelled (drop (at + 1) old)),
  )

  change : (a b : ℕ) (row : Row) (new : List ℕ)
      → new ≡ take (start a old) bytes ++ (row_bytes row ++ drop (start b old) bytes)
      → new ≡ spelled (edited a b (row ∷ []) old)
  change a b row new is =
      is ∙ ap (λ (all : List ℕ). take (start a old) all ++ (row_bytes row ++ drop (start b old) all)) h.spelled
      ∙ row_edited a b row old

  pub holds_inserted : (at : ℕ) (row : Row) (new : List ℕ) → at ≤ length old → IsRow row
      → new ≡ take (start at old) bytes ++ (row_bytes row ++ drop (start at old) bytes)
      → Holds (count + 1) new (insert old at row)
  holds_inserted at row new within is done =
      rw (inserted old at row within) (holds (edited at at (row ∷ []) old) (count + 1) new (change at at row new done)
      (omega (arith, edited_len at at (row ∷ []) old (omega arith) within, old_len, within))
      (edited_each at at (row ∷ []) old h.each (is, tt)))

  pub holds_replaced : (at : ℕ) (row : Row) (new : List ℕ) → at < length old → IsRow row
      → new ≡ take (start at old) bytes ++ (row_bytes row ++ drop (start (at + 1) old) bytes)
      → Holds count new (set old at row)
  holds_replaced at row new within is done =
      rw (replaced old at row within)
      (holds (edited at (at + 1) (row ∷ []) old) count new (change at (at + 1) row new done)
      (omega (arith, edited_len at (at + 1) (row ∷ []) old (omega arith) (omega (arith, within)), old_len, within))
      (edited_each at (at + 1) (row ∷ []) old h.each (is, tt)))

  pub holds_removed : (at : ℕ) (new : List ℕ) → at < length old
      → take (start at old) new ≡ take (start at old) bytes
      → drop (start at old) new ≡ drop (start (at + 1) old) bytes
      → Holds (count - 1) new (remove old at)
  holds_removed at new within before after =
      rw (removed old at within) (holds (edited at (at + 1) [] old) (count - 1) new
      (sym (take-append-drop (start at old) new) ∙ (λ i. before i ++ after i)
      ∙ ap (λ (all : List ℕ). take (start at old) all ++ drop (start (at + 1) old) all) h.spelled
      ∙ edited_bytes at (at + 1) [] old)
      (omega (arith, edited_len at (at + 1) [] old (omega arith) (omega (arith, within)), old_len, within))
      (edited_each at (at + 1) [] old h.each tt))

  pub holds_taken : (at : ℕ) (new : List ℕ) → at ≤ length old → new ≡ take (start at old) bytes
      → Holds at new (take at old)
  holds_taken at new within done =
      holds (take at old) at new (done ∙ ap (take (start at old)) h.spelled ∙ before_start at old)
      (sym (length-take-le at old within)) (all_take at old h.each)

-- ---- a row's two texts, written where there is a gap for them

module _ (old gap one two key value : List ℕ) (from to : ℕ) (within : from ≤ length gap)
    (before : take from gap ≡ take from old)
    (after : drop (from + (2 + length key + length value)) gap ≡ drop to old)
    (first : one ≡ take from gap ++ (text key ++ drop (from + (1 + length key)) gap))
    (second : two ≡ take (from + 1 + length key) one
    ++ (text value ++ drop (from + 1 + length key + (1 + length value)) one)) where
  abbrev rest : List ℕ
  rest = drop (from + (1 + length key)) gap

  from_len : length (take from gap) ≡ from
  from_len = length-take-le from gap within

  parts : one ≡ (take from gap ++ text key) ++ rest
  parts = first ∙ sym (append_assoc (take from gap) (text key) rest)

  front_len : length (take from gap ++ text key) ≡ from + 1 + length key
  front_len = omega (arith, length-append (take from gap) (text key), from_len)

  front : take (from + 1 + length key) one ≡ take from old ++ text key
  front = ap (take (from + 1 + length key)) parts
      ∙ take_at (take from gap ++ text key) rest (from + 1 + length key) front_len
      ∙ ap (λ (b : List ℕ). b ++ text key) before

  back : drop (from + 1 + length key + (1 + length value)) one ≡ drop to old
  back =
      sym (drop-drop (1 + length value) (from + 1 + length key) one)
      ∙ ap (drop (1 + length value)) (ap (drop (from + 1 + length key)) parts
      ∙ drop_at (take from gap ++ text key) rest (from + 1 + length key) front_len)
      ∙ drop-drop (1 + length value) (from + (1 + length key)) gap
      ∙ (let same : from + (1 + length key) + (1 + length value) ≡ from + (2 + length key + length value) =
      omega arith in ap (λ (k : ℕ). drop k gap) same)
      ∙ after

  pub two_texts : two ≡ take from old ++ ((text key ++ text value) ++ drop to old)
  two_texts =
      second ∙ (λ i. front i ++ (text value ++ back i))
      ∙ append_assoc (take from old) (text key) (text value ++ drop to old)
      ∙ ap (λ (more : List ℕ). take from old ++ more) (sym (append_assoc (text key) (text value) (drop to old)))
