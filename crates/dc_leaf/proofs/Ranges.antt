-- The rows of a range are a part of sorted rows.
use Rattle.std.proofs.Common.{◌≡◌, ℕ, zero, suc, Bool, true, false, cond, List, [], ◌∷◌, take, drop, filter, Some, None, Ok, Err, refl, sym, ap, ◌∙◌, inl, inr, true≢false}
use Rattle.std.specs.Prelude.{not, ◌&&◌, T}
use Rattle.std.specs.Ordering.{is_lt, ordering_reverse}
use Rattle.std.specs.declared.cmp.Ordering.{Ordering}
use Rattle.std.specs.declared.cmp.Ordering.TheVariants.{Less, Equal, Greater}
use Rattle.std.specs.FinMap.{is_sorted}
use Rattle.std.specs.FinMap.Entries.{below_all}
use Rattle.std.proofs.lemmas.Bool.{cases_Bool}
use Rattle.std.proofs.lemmas.Cmp.{nat_list_cmp_total}
use Rattle.record_key.specs.Table.{Bytes}
use Rattle.record_key.specs.Laws.{key_cmp}
use Rattle.record_key.specs.Rows.{Row, AreInOrder, IsAt, IsGapFor, IsPlaceOf, table_of}
use Rattle.record_key.specs.Order.{is_below, Range, rows_in}
use Rattle.record_key.proofs.Truths.{is_lt-Less, and_first, and_second, as_T, from_T}
use Rattle.record_key.proofs.Rows.{entries-table_of}
use Rattle.dc_leaf.specs.Places.{IsStartFor}

-- how a key lies to a row that was compared with it
below_at : (k x : Bytes) (o : Ordering) → key_cmp k x ≡ o → is_below x k ≡ is_lt (ordering_reverse o)
below_at k x o is = ap is_lt (nat_list_cmp_total.antisymm x k ∙ ap ordering_reverse is)

at_start : (k : Bytes) (rows : List Row) (p : ℕ) → IsAt k rows p → IsStartFor k rows p
at_start k [] p at = absurd at
at_start k (row ∷ rows) zero at = below_at k row.0 Equal at
at_start k (row ∷ rows) (suc p) at = (below_at k row.0 Greater at.0, at_start k rows p at.1)

gap_start : (k : Bytes) (rows : List Row) (p : ℕ) → IsGapFor k rows p → IsStartFor k rows p
gap_start k [] p gap = gap
gap_start k (row ∷ rows) zero gap = below_at k row.0 Less gap
gap_start k (row ∷ rows) (suc p) gap = (below_at k row.0 Greater gap.0, gap_start k rows p gap.1)

pub start_at : (k : Bytes) (rows : List Row) (p : ℕ) → IsPlaceOf k rows (Ok p) → IsStartFor k rows p
start_at k rows p at = at_start k rows p at

pub start_gap : (k : Bytes) (rows : List Row) (p : ℕ) → IsPlaceOf k rows (Err p) → IsStartFor k rows p
start_gap k rows p gap = gap_start k rows p gap

-- above a key that isn't below another there is none below it
still_above : (x y k : Bytes) → is_below x k ≡ false → key_cmp x y ≡ Less → is_below y k ≡ false
still_above x y k above less =
    elim (cases_Bool (is_below y k)) [
      | inl below ↦
          let lower : key_cmp x k ≡ Less =
          nat_list_cmp_total.trans x y k less (is_lt-Less (key_cmp y k) (as_T (is_below y k) below)) in
          absurd (true≢false (sym (ap is_lt lower) ∙ above))
      | inr free ↦ free
    ]

abbrev is_from : Bytes → Row → Bool
is_from k row = not (is_below row.0 k)

abbrev is_under : Bytes → Row → Bool
is_under k row = is_below row.0 k

-- the parts of rows before and after a start
pub record Parts (k : Bytes) (rows front back : List Row) : Type 0 where
  pub under : front ≡ filter (λ row. is_below row.0 k) rows
  pub from : back ≡ filter (λ row. not (is_below row.0 k)) rows

all_from : (k x : Bytes) (rows : List Row) → is_below x k ≡ false → T (below_all key_cmp x rows) → Parts k rows [] rows
all_from k x [] above ordered = record { under = refl; from = refl }
all_from k x (row ∷ rows) above ordered =
    let here : is_below row.0 k ≡ false = still_above x row.0 k above (is_lt-Less _ (and_first _ _ ordered)) in
    let rest = all_from k x rows above (and_second _ _ ordered) in
    record { under = rw (here) rest.under; from = rw (here) (ap (λ (r : List Row). row ∷ r) rest.from) }

pub parted : (k : Bytes) (rows : List Row) (p : ℕ) → T (is_sorted key_cmp rows) → IsStartFor k rows p
    → Parts k rows (take p rows) (drop p rows)
parted k [] zero ordered start = record { under = refl; from = refl }
parted k [] (suc p) ordered start = record { under = refl; from = refl }
parted k (row ∷ rows) zero ordered start =
    let rest = all_from k row.0 rows start (and_first _ _ ordered) in
    record { under = rw (start) rest.under; from = rw (start) (ap (λ (r : List Row). row ∷ r) rest.from) }
parted k (row ∷ rows) (suc p) ordered start =
    let rest = parted k rows p (and_second _ _ ordered) start.1 in
    record { under = rw (start.0) (ap (λ (r : List Row). row ∷ r) rest.under); from = rw (start.0) rest.from }

-- what is left of rows in order is in order
sorted_drop : (rows : List Row) (p : ℕ) → T (is_sorted key_cmp rows) → T (is_sorted key_cmp (drop p rows))
sorted_drop [] zero h = h
sorted_drop [] (suc p) h = h
sorted_drop (row ∷ rows) zero h = h
sorted_drop (row ∷ rows) (suc p) h = sorted_drop rows p (and_second _ _ h)

pub ordered_drop : (rows : List Row) (p : ℕ) → AreInOrder rows → AreInOrder (drop p rows)
ordered_drop rows p h = from_T _ (sorted_drop rows p (as_T _ h))

pub parts_of : (k : Bytes) (rows : List Row) (p : ℕ) → AreInOrder rows → IsStartFor k rows p
    → Parts k rows (take p rows) (drop p rows)
parts_of k rows p h start = parted k rows p (as_T _ h) start

-- one test after another, and a test that nothing fails
one_then : (a b : Bool) (row : Row) (rows : List Row) (q : Row → Bool) → q row ≡ b
    → filter q (cond a (row ∷ rows) rows) ≡ cond (a && b) (row ∷ filter q rows) (filter q rows)
one_then true true row rows q is = rw (is) refl
one_then true false row rows q is = rw (is) refl
one_then false b row rows q is = refl

both : (p q : Row → Bool) (rows : List Row) → filter q (filter p rows) ≡ filter (λ row. p row && q row) rows
both p q [] = refl
both p q (row ∷ rows) = one_then (p row) (q row) row (filter p rows) q refl
    ∙ ap (λ (rest : List Row). cond (p row && q row) (row ∷ rest) rest) (both p q rows)

alone : (p : Row → Bool) (rows : List Row) → filter p rows ≡ filter (λ row. p row && true) rows
alone p [] = refl
alone p (row ∷ rows) = (λ i. cond (is_same i) (row ∷ alone p rows i) (alone p rows i))
  where
    and_true : (b : Bool) → b ≡ (b && true)
    and_true true = refl
    and_true false = refl

    is_same : p row ≡ (p row && true)
    is_same = and_true (p row)

-- the rows of a range
pub ranged : (s : Range) (rows part : List Row) (hi : Bytes) → AreInOrder rows → s.hi ≡ Some hi
    → part ≡ filter (λ row. is_below row.0 hi) (filter (λ row. not (is_below row.0 s.lo)) rows)
    → part ≡ rows_in s (table_of rows)
ranged s rows part hi ordered is h =
    h ∙ both (is_from s.lo) (is_under hi) rows
    ∙ rw (entries-table_of rows ordered, is) refl

pub ranged_on : (s : Range) (rows part : List Row) → AreInOrder rows → s.hi ≡ None
    → part ≡ filter (λ row. not (is_below row.0 s.lo)) rows → part ≡ rows_in s (table_of rows)
ranged_on s rows part ordered is h = h ∙ alone (is_from s.lo) rows ∙ rw (entries-table_of rows ordered, is) refl
