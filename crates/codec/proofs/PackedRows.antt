-- Packed rows: what their bytes spell, read from the front, and more of them at the end.
use Rattle.std.proofs.Common.{◌≡◌, ℕ, zero, suc, ◌+◌, ◌-◌, ◌<◌, ◌≤◌, Bool, true, false, cond, List, [], ◌∷◌, ◌++◌, length, take, drop, Option, Some, None, refl, sym, ap, ◌∙◌, subst, arith, rules, inl, inr, ◌⊎◌}
use Rattle.std.specs.Cmp.Lexicographic.{pointwise, same_text}
use Rattle.std.specs.Cmp.Rules.{comparing}
use Rattle.std.specs.Bool.{nat_eq}
use Rattle.std.specs.Cmp.{IsEquivalence}
use Rattle.std.specs.List.{flat_map, AllByRecursion}
use Rattle.std.proofs.Math.Seq.{take-append_seam}
use Rattle.std.proofs.lemmas.Bool.{cases_Bool, and_parts}
use Rattle.std.proofs.lemmas.Cmp.{nat_list_eq_equiv}
use Rattle.std.proofs.lemmas.Grind.{flat_map-append}
use Rattle.std.proofs.lemmas.List.{drop_at, length-append, length-take-le, append_assoc, take-append-drop}
use Rattle.std.proofs.lemmas.List.Concat.{flat_map-cons}
use Rattle.std.proofs.lemmas.Option.{cond_some}
use Rattle.record_key.specs.Table.{Bytes}
use Rattle.record_key.specs.Order.{is_below}
use Rattle.record_key.specs.Rows.{Row, rises}
use Rattle.record_key.proofs.Rows.{rises_next, falls_next}
use Rattle.codec.specs.Fields.{text}
use Rattle.codec.specs.Rows.{same_row, same_rows, row_bytes, IsRow}
use Rattle.codec.specs.PackedRows.{first_text, after_text, HasText, rows_spelled, ArePacked}
use Rattle.codec.specs.Reading.{◌>>=◌, count_at, items_at, row_at, rows_at, rows_end, where_}
use Rattle.codec.proofs.Readers.{IsBytes, one_spelling}
use Rattle.codec.proofs.Fields.{count_reads, row_reads}
use Rattle.codec.proofs.Items.{items_take}

pub length-spelled : (n : ℕ) (bytes : List ℕ) → length (rows_spelled n bytes) ≡ n
unfolding rows_spelled
length-spelled zero bytes = refl
length-spelled (suc n) bytes = ap suc (length-spelled n (after_text (after_text bytes)))

first_again : (x : Bytes) (rest : List ℕ) → first_text (text x ++ rest) ≡ x
first_again x rest = take-append_seam x rest

after_again : (x : Bytes) (rest : List ℕ) → after_text (text x ++ rest) ≡ rest
after_again x rest = drop_at x rest (length x) refl

spelled_next : (n : ℕ) (key value : Bytes) (rest : List ℕ)
    → rows_spelled (suc n) (text key ++ (text value ++ rest)) ≡ (key, value) ∷ rows_spelled n rest
unfolding rows_spelled
spelled_next n key value rest =
    rw (
      first_again key (text value ++ rest),
      after_again key (text value ++ rest),
      first_again value rest,
      after_again value rest,
    ) refl

pub spelled_again : (rows : List Row) → rows_spelled (length rows) (flat_map row_bytes rows) ≡ rows
unfolding rows_spelled
spelled_again [] = refl
spelled_again (row ∷ rows) =
    ap (rows_spelled (suc (length rows))) (flat_map-cons row_bytes row rows
    ∙ append_assoc (text row.0) (text row.1) (flat_map row_bytes rows))
    ∙ spelled_next (length rows) row.0 row.1 (flat_map row_bytes rows)
    ∙ ap (λ (more : List Row). row ∷ more) (spelled_again rows)

-- the bytes of rows spell them
pub spells : (rows : List Row) (count : ℕ) (bytes : List ℕ) → bytes ≡ flat_map row_bytes rows → count ≡ length rows
    → rows_spelled count bytes ≡ rows
spells rows count bytes are counted =
    ap (λ (n : ℕ). rows_spelled n bytes) counted ∙ ap (rows_spelled (length rows)) are ∙ spelled_again rows

pub packs : (rows : List Row) (count : ℕ) (bytes : List ℕ) → bytes ≡ flat_map row_bytes rows → count ≡ length rows
    → AllByRecursion IsRow rows → ArePacked (rows_spelled count bytes) bytes
packs rows count bytes are counted each =
    subst (λ (these : List Row). ArePacked these bytes) (sym (spells rows count bytes are counted))
    (record { spelled = are; each = each })

-- ---- more rows at the end

pub all_both : (rows more : List Row) → AllByRecursion IsRow rows → AllByRecursion IsRow more
    → AllByRecursion IsRow (rows ++ more)
all_both [] more each rest = rest
all_both (row ∷ rows) more each rest = (each.0, all_both rows more each.1 rest)

module _ (count : ℕ) (bytes : List ℕ) (more : List Row) (h : ArePacked (rows_spelled count bytes) bytes) where
  abbrev old : List Row
  old = rows_spelled count bytes

  longer : bytes ++ flat_map row_bytes more ≡ flat_map row_bytes (old ++ more)
  longer = ap (λ (b : List ℕ). b ++ flat_map row_bytes more) h.spelled ∙ sym (flat_map-append row_bytes old more)

  more_count : count + length more ≡ length (old ++ more)
  more_count = omega (arith, length-append old more, length-spelled count bytes)

  pub spells_more : rows_spelled (count + length more) (bytes ++ flat_map row_bytes more) ≡ old ++ more
  spells_more = spells (old ++ more) (count + length more) (bytes ++ flat_map row_bytes more) longer more_count

  pub packs_more : AllByRecursion IsRow more
      → ArePacked (rows_spelled (count + length more) (bytes ++ flat_map row_bytes more))
      (bytes ++ flat_map row_bytes more)
  packs_more each = packs (old ++ more) (count + length more) (bytes ++ flat_map row_bytes more) longer more_count
      (all_both old more h.each each)

-- each row has a byte at least
pub rows_few : (rows : List Row) → length rows ≤ length (flat_map row_bytes rows)
rows_few [] = omega arith
rows_few (row ∷ rows) = omega (
  arith,
  rows_few rows,
  ap length (flat_map-cons row_bytes row rows),
  length-append (row_bytes row) (flat_map row_bytes rows),
  length-append (text row.0) (text row.1),
)

pub few_packed : (count : ℕ) (bytes : List ℕ) → ArePacked (rows_spelled count bytes) bytes → count ≤ length bytes
few_packed count bytes h = omega (
  arith,
  length-spelled count bytes,
  rows_few (rows_spelled count bytes),
  ap length h.spelled,
)

-- ---- the row at the front

has_again : (x : Bytes) (rest : List ℕ) → HasText (text x ++ rest)
has_again x rest = (omega arith, omega (arith, length-append x rest))

module _ (count : ℕ) (bytes : List ℕ) (some : count ≡ 0 → ⊥) (h : ArePacked (rows_spelled count bytes) bytes) where
  abbrev left_bytes : List ℕ
  left_bytes = after_text (after_text bytes)

  abbrev left : List Row
  left = rows_spelled (count - 1) left_bytes

  abbrev front : Row
  front = (first_text bytes, first_text (after_text bytes))

  pub front_spelled : rows_spelled count bytes ≡ front ∷ left
  unfolding rows_spelled
  front_spelled =
      let is : count ≡ suc (count - 1) = omega (arith, some) in
      ap (λ (n : ℕ). rows_spelled n bytes) is

  h_front : ArePacked (front ∷ left) bytes
  h_front = subst (λ (these : List Row). ArePacked these bytes) front_spelled h

  key_first : bytes ≡ text front.0 ++ (text front.1 ++ flat_map row_bytes left)
  key_first = h_front.spelled ∙ flat_map-cons row_bytes front left
      ∙ append_assoc (text front.0) (text front.1) (flat_map row_bytes left)

  value_first : after_text bytes ≡ text front.1 ++ flat_map row_bytes left
  value_first = ap after_text key_first ∙ after_again front.0 (text front.1 ++ flat_map row_bytes left)

  pub has_key : HasText bytes
  has_key = subst HasText (sym key_first) (has_again front.0 (text front.1 ++ flat_map row_bytes left))

  pub has_value : HasText (after_text bytes)
  has_value = subst HasText (sym value_first) (has_again front.1 (flat_map row_bytes left))

  pub front_is_row : IsRow front
  front_is_row = h_front.each.0

  pub rest_packed : ArePacked left left_bytes
  rest_packed = record {
    spelled = ap after_text value_first ∙ after_again front.1 (flat_map row_bytes left);
    each = h_front.each.1;
  }

-- ---- the rows before a place

pub all_take : (n : ℕ) (rows : List Row) → AllByRecursion IsRow rows → AllByRecursion IsRow (take n rows)
all_take zero rows each = tt
all_take (suc n) [] each = tt
all_take (suc n) (row ∷ rows) each = (each.0, all_take n rows each.1)

front_is : (front rest : List ℕ) → take (length (front ++ rest) - length rest) (front ++ rest) ≡ front
front_is front rest =
    let len : length (front ++ rest) - length rest ≡ length front = omega (arith, length-append front rest) in
    ap (λ (n : ℕ). take n (front ++ rest)) len ∙ take-append_seam front rest

module _ (count : ℕ) (bytes : List ℕ) (h : ArePacked (rows_spelled count bytes) bytes) (at left : ℕ) (rest : List ℕ)
    (more : ArePacked (rows_spelled left rest) rest)
    (is : rows_spelled left rest ≡ drop at (rows_spelled count bytes)) where
  abbrev all : List Row
  all = rows_spelled count bytes

  abbrev front_bytes : List ℕ
  front_bytes = flat_map row_bytes (take at all)

  seam : bytes ≡ front_bytes ++ rest
  seam = h.spelled ∙ ap (flat_map row_bytes) (sym (take-append-drop at all))
      ∙ flat_map-append row_bytes (take at all) (drop at all)
      ∙ ap (λ (b : List ℕ). front_bytes ++ b) (sym (more.spelled ∙ ap (flat_map row_bytes) is))

  pub rest_within : length rest ≤ length bytes
  rest_within = omega (arith, ap length seam, length-append front_bytes rest)

  abbrev front_part : List ℕ
  front_part = take (length bytes - length rest) bytes

  front_part_is : front_part ≡ front_bytes
  front_part_is = ap (λ (b : List ℕ). take (length b - length rest) b) seam ∙ front_is front_bytes rest

  module _ (within : at ≤ length all) where
    counted : at ≡ length (take at all)
    counted = sym (length-take-le at all within)

    pub before_spelled : rows_spelled at front_part ≡ take at all
    before_spelled = spells (take at all) at front_part front_part_is counted

    pub before_packed : ArePacked (rows_spelled at front_part) front_part
    before_packed = packs (take at all) at front_part front_part_is counted (all_take at all h.each)

-- ---- rows with rising keys

-- what follows rows that rise from above this key
abbrev after_rising : Bytes → Option (List Row × List ℕ) → Option (List ℕ)
after_rising before read = read >>= λ x. cond (rises ((before, []) ∷ x.0)) (Some x.1) None

grows : (before : Bytes) (row : Row) (read : Option (List Row × List ℕ)) → is_below before row.0 ≡ true
    → after_rising row.0 read ≡ after_rising before (read >>= λ x. Some (row ∷ x.0, x.1))
grows before row None below = refl
grows before row (Some x) below =
    ap (λ (b : Bool). cond b (Some x.1) None) (sym (rises_next (before, []) row x.0 below))

not_some : {X : Type 0} (x : X) → None ≡ Some x → ⊥
not_some x e = absurd cc

cond_none : {X : Type 0} (b : Bool) (x : X) → cond b (Some x) None ≡ None → b ≡ false
cond_none true x e = absurd cc
cond_none false x e = refl

falls : (before : Bytes) (row : Row) (read : Option (List Row × List ℕ)) → is_below before row.0 ≡ false
    → None ≡ after_rising before (read >>= λ x. Some (row ∷ x.0, x.1))
falls before row None above = refl
falls before row (Some x) above =
    ap (λ (b : Bool). cond b (Some x.1) None) (sym (falls_next (before, []) row x.0 above))

one_row : (n : ℕ) (before : Bytes) (read : Option (Row × List ℕ))
    → ((b : Bytes) (bytes : List ℕ) → rows_end b n bytes ≡ after_rising b (items_at row_at n bytes))
    → (read >>= λ x. cond (is_below before x.0.0) (rows_end x.0.0 n x.1) None)
    ≡ after_rising before (read >>= λ x. items_at row_at n x.1 >>= λ xs. Some (x.0 ∷ xs.0, xs.1))
one_row n before None next = refl
one_row n before (Some x) next =
    elim (cases_Bool (is_below before x.0.0)) [
      | inl below ↦ rw below (next x.0.0 x.1 ∙ grows before x.0 (items_at row_at n x.1) below)
      | inr above ↦ rw above (falls before x.0 (items_at row_at n x.1) above)
    ]

end_is : (n : ℕ) (before : Bytes) (bytes : List ℕ) → rows_end before n bytes
    ≡ after_rising before (items_at row_at n bytes)
unfolding rows_end items_at
end_is zero before bytes = refl
end_is (suc n) before bytes = one_row n before (row_at bytes) (λ b bs. end_is n b bs)

-- the empty key is below that of each row
above_empty : (key : Bytes) → 1 ≤ length key → is_below [] key ≡ true
above_empty [] some = absurd (omega (arith, some))
above_empty (b ∷ key) some = refl

from_empty : (rows : List Row) → AllByRecursion IsRow rows → rises (([], []) ∷ rows) ≡ rises rows
from_empty [] each = refl
from_empty (row ∷ rows) each = rises_next ([], []) row rows (above_empty row.0 each.0.0.0)

-- rows with rising keys stand there, and nothing else before what follows them
pub record AreThere (count : ℕ) (bytes after : List ℕ) : Type 0 where
  pub rows : List Row
  pub read : where_ rises (items_at row_at count) bytes ≡ Some (rows, after)
  pub parts : bytes ≡ flat_map row_bytes rows ++ after
  pub counted : count ≡ length rows
  pub each : AllByRecursion IsRow rows

found_there : (count : ℕ) (bytes after : List ℕ) → IsBytes bytes → (x : List Row × List ℕ)
    → items_at row_at count bytes ≡ Some x → after_rising [] (Some x) ≡ Some after → AreThere count bytes after
found_there count bytes after fits x read rising =
    let took = items_take Row row_bytes IsRow row_at row_reads count bytes x fits read in
    let passed = cond_some (rises (([], []) ∷ x.0)) x.1 after rising in
    let up : rises x.0 ≡ true = sym (from_empty x.0 took.2) ∙ passed.0 in
    record {
      rows = x.0;
      read = rw (read, up) (ap (λ (rest : List ℕ). Some (x.0, rest)) passed.1);
      parts = took.0.parts ∙ ap (λ (rest : List ℕ). flat_map row_bytes x.0 ++ rest) passed.1;
      counted = sym took.1;
      each = took.2;
    }

option_cases : {X : Type 0} (o : Option X) → (o ≡ None) ⊎ ((x : X) × (o ≡ Some x))
option_cases None = inl refl
option_cases (Some x) = inr (x, refl)

pub are_there : (count : ℕ) (bytes after : List ℕ) → IsBytes bytes → rows_end [] count bytes ≡ Some after
    → AreThere count bytes after
are_there count bytes after fits e =
    let read = items_at row_at count bytes in
    let rising : after_rising [] read ≡ Some after = sym (end_is count [] bytes) ∙ e in
    elim (option_cases read) [
      | inl none ↦ absurd (not_some after (sym (ap (after_rising []) none) ∙ rising))
      | inr some ↦
          found_there count bytes after fits some.0 some.1 (sym (ap (after_rising []) some.1) ∙ rising)
    ]

falls_there : (count : ℕ) (bytes : List ℕ) → IsBytes bytes → (x : List Row × List ℕ)
    → items_at row_at count bytes ≡ Some x → after_rising [] (Some x) ≡ None
    → where_ rises (items_at row_at count) bytes ≡ None
falls_there count bytes fits x read falling =
    let took = items_take Row row_bytes IsRow row_at row_reads count bytes x fits read in
    let down : rises x.0 ≡ false =
    sym (from_empty x.0 took.2) ∙ cond_none (rises (([], []) ∷ x.0)) x.1 falling in
    rw (read, down) refl

pub are_not_there : (count : ℕ) (bytes : List ℕ) → IsBytes bytes → rows_end [] count bytes ≡ None
    → where_ rises (items_at row_at count) bytes ≡ None
are_not_there count bytes fits e =
    let read = items_at row_at count bytes in
    let falling : after_rising [] read ≡ None = sym (end_is count [] bytes) ∙ e in
    elim (option_cases read) [
      | inl none ↦ rw none refl
      | inr some ↦ falls_there count bytes fits some.0 some.1 (sym (ap (after_rising []) some.1) ∙ falling)
    ]

-- ---- so many rows, one after another

-- what follows the rows that are left is what follows all
module _ (count i : ℕ) (before : Bytes) (bytes : List ℕ) (total : Option (List ℕ))
    (so_far : rows_end before (count - i) bytes ≡ total) where
  module _ (less : i < count) where
    turn : count - i ≡ suc (count - (i + 1))
    turn = omega (arith, less)

    pub goes_on : (row : Row) (after : List ℕ) → row_at bytes ≡ Some (row, after) → is_below before row.0 ≡ true
        → rows_end row.0 (count - (i + 1)) after ≡ total
    unfolding rows_end
    goes_on row after read below =
        let one : rows_end before (count - i) bytes ≡ rows_end row.0 (count - (i + 1)) after =
        rw (turn, read, below) refl in
        sym one ∙ so_far

    pub stops : row_at bytes ≡ None → total ≡ None
    unfolding rows_end
    stops read =
        let one : rows_end before (count - i) bytes ≡ None = rw (turn, read) refl in
        sym so_far ∙ one

    pub stops_below : (row : Row) (after : List ℕ) → row_at bytes ≡ Some (row, after) → is_below before row.0 ≡ false
        → total ≡ None
    unfolding rows_end
    stops_below row after read above =
        let one : rows_end before (count - i) bytes ≡ None = rw (turn, read, above) refl in
        sym so_far ∙ one

  pub is_done : count ≤ i → total ≡ Some bytes
  unfolding rows_end
  is_done most =
      let none : count - i ≡ 0 = omega (arith, most) in
      let one : rows_end before (count - i) bytes ≡ Some bytes = rw none refl in
      sym so_far ∙ one

-- ---- behind their count

rows_at_is : (bytes : List ℕ) (count : ℕ) (rest : List ℕ) → count_at bytes ≡ Some (count, rest)
    → rows_at bytes ≡ where_ rises (items_at row_at count) rest
unfolding rows_at
rows_at_is bytes count rest counted = rw counted refl

module _ (bytes : List ℕ) (fits : IsBytes bytes) (count : ℕ) (rest : List ℕ)
    (counted : count_at bytes ≡ Some (count, rest)) where
  rest_fits : IsBytes rest
  rest_fits = (count_reads.takes bytes (count, rest) fits counted).0.rest_fits

  pub none_found : rows_end [] count rest ≡ None → rows_at bytes ≡ None
  none_found ended = rows_at_is bytes count rest counted ∙ are_not_there count rest rest_fits ended

  module _ (after : List ℕ) (ended : rows_end [] count rest ≡ Some after) where
    there : AreThere count rest after
    there = are_there count rest after rest_fits ended

    -- the bytes of the rows
    abbrev theirs : List ℕ
    theirs = take (length rest - length after) rest

    pub within : length after ≤ length rest
    within = omega (arith, ap length there.parts, length-append (flat_map row_bytes there.rows) after)

    theirs_are : theirs ≡ flat_map row_bytes there.rows
    theirs_are = ap (λ (b : List ℕ). take (length b - length after) b) there.parts
        ∙ front_is (flat_map row_bytes there.rows) after

    pub packed_there : ArePacked (rows_spelled count theirs) theirs
    packed_there = packs there.rows count theirs theirs_are there.counted there.each

    pub found : (rows : List Row) → rows ≡ rows_spelled count theirs → rows_at bytes ≡ Some (rows, after)
    found rows are =
        rows_at_is bytes count rest counted ∙ there.read
        ∙ ap (λ (these : List Row). Some (these, after))
        (sym (are ∙ spells there.rows count theirs theirs_are there.counted))

-- ---- rows are equal where their bytes are

same_spelled : (a b : List Row) → AllByRecursion IsRow a → AllByRecursion IsRow b
    → flat_map row_bytes a ≡ flat_map row_bytes b → a ≡ b
same_spelled [] [] p q e = refl
same_spelled [] (y ∷ b) p q e = absurd (omega (arith, ap length e, rows_few (y ∷ b)))
same_spelled (x ∷ a) [] p q e = absurd (omega (arith, ap length e, rows_few (x ∷ a)))
same_spelled (x ∷ a) (y ∷ b) p q e =
    let parts = one_spelling Row row_bytes IsRow row_at row_reads x y (flat_map row_bytes a) (flat_map row_bytes b) p.0
    q.0 (sym (flat_map-cons row_bytes x a) ∙ e ∙ flat_map-cons row_bytes y b) in
    ap (λ (row : Row). row ∷ a) parts.0 ∙ ap (λ (rows : List Row). y ∷ rows) (same_spelled a b p.1 q.1 parts.1)

equal_rows : IsEquivalence same_rows
equal_rows = Prim.search (comparing, rules)

told_same : (a b : List Row) → same_rows a b ≡ true → a ≡ b
told_same [] [] e = refl
told_same [] (y ∷ b) e = absurd cc
told_same (x ∷ a) [] e = absurd cc
told_same (x ∷ a) (y ∷ b) e =
    let both = and_parts (same_row x y) (same_rows a b) e in
    let texts = and_parts (pointwise nat_eq x.0 y.0) (pointwise nat_eq x.1 y.1) both.0 in
    let key : x.0 ≡ y.0 = same_text x.0 y.0 (sym texts.0) in
    let value : x.1 ≡ y.1 = same_text x.1 y.1 (sym texts.1) in
    λ i. (key i, value i) ∷ told_same a b both.1 i

both_ways : (a b : Bool) → (a ≡ true → b ≡ true) → (b ≡ true → a ≡ true) → a ≡ b
both_ways true b to from = sym (to refl)
both_ways false true to from = from refl
both_ways false false to from = refl

pub equal_bytes : (a b : List Row) → AllByRecursion IsRow a → AllByRecursion IsRow b
    → pointwise nat_eq (flat_map row_bytes a) (flat_map row_bytes b) ≡ same_rows a b
equal_bytes a b p q =
    both_ways (pointwise nat_eq (flat_map row_bytes a) (flat_map row_bytes b)) (same_rows a b)
    (λ e.
    let rows : a ≡ b = same_spelled a b p q (same_text (flat_map row_bytes a) (flat_map row_bytes b) (sym e)) in
    subst (λ (z : List Row). same_rows a z ≡ true) rows (equal_rows.refl a))
    (λ e.
    let bytes : flat_map row_bytes a ≡ flat_map row_bytes b = ap (flat_map row_bytes) (told_same a b e) in
    subst (λ (z : List ℕ). pointwise nat_eq (flat_map row_bytes a) z ≡ true) bytes
    (nat_list_eq_equiv.refl (flat_map row_bytes a)))
