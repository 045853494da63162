-- A leaf that performs, is raised, is parted or joined is a leaf still.
use Rattle.std.proofs.Common.{◌≡◌, ℕ, zero, suc, ◌<◌, ◌/◌, Bool, true, false, cond, filter, List, [], ◌∷◌, ◌++◌, length, Option, Some, None, refl, sym, ap, ◌∙◌, subst, arith, inl, inr, true≢false, slice_get}
use Rattle.std.specs.Prelude.{nat_le, T}
use Rattle.std.specs.List.{AllByRecursion}
use Rattle.std.specs.Ordering.{eq_by_cmp}
use Rattle.std.specs.FinMap as map
use Rattle.std.specs.FinMap.{find, is_sorted}
use Rattle.std.specs.FinMap.Entries.{below_all}
use Rattle.std.proofs.lemmas.Bool.{cases_Bool, and_parts, not-true, leb-true}
use Rattle.record_key.specs.declared.op.Op.{Op}
use Rattle.record_key.specs.declared.entry.Entry.{Entry}
use Rattle.record_key.specs.Table.{Bytes, Table, key_of, answer_in, value_after, with_record}
use Rattle.record_key.specs.Laws.{key_cmp}
use Rattle.record_key.specs.Order.{is_below, starts_at_most, ends_above, is_between}
use Rattle.record_key.specs.Rows.{Row, LieBetween}
use Rattle.record_key.specs.Entries.{RiseAbove, StandBetween}
use Rattle.record_key.proofs.Lists.{all_from, all_appended}
use Rattle.record_key.proofs.Truths.{from_T, and_first, and_second}
use Rattle.record_key.proofs.Tables.{is_same-refl, is_same-true, get-with_record}
use Rattle.record_key.proofs.Rows.{entries-table_of, own_rows}
use Rattle.dc_ab_lsn.specs.AbLsn.{captures}
use Rattle.dc_ab_lsn.specs.Parting.{is_under, is_from, placed_all}
use Rattle.dc_ab_lsn.proofs.Rising.{filtered_rises, placed_rises}
use Rattle.dc_ab_lsn.proofs.Capturing.{raised_rises}
use Rattle.dc_ab_lsn.proofs.Noting.{uncaptured, above_rises_too}
use Rattle.dc_leaf.specs.Leaf.{LeafView, IsLeaf, is_in_fences, performed, raised_to}
use Rattle.dc_leaf.specs.Parting.{upper_of, lower_of, joined_of, AreNeighbours}
use Rattle.dc_leaf.specs.Tiles.{IsInside, part_of, starts_below}
use Rattle.dc_leaf.proofs.Performing.{all_placed}
use Rattle.dc_leaf.proofs.Raising.{all_raised}
use Rattle.dc_leaf.proofs.Halves.{all_kept, all_joined, below_free, between_lower, between_upper, lower_between, upper_between, retained, table_again, ordered_both}
use Rattle.dc_leaf.proofs.Sides.{neighbours_apart}
use Rattle.dc_tree.specs.Parting.{key_in, count, middle, may_split}

-- ---- keys of a table

-- what each key has where something stands
keys_all : (P : Bytes → Type 0) (rows : List Row) → ((q v : Bytes) → find key_cmp q rows ≡ Some v → P q)
    → AllByRecursion (λ (row : Row). P row.0) rows
keys_all P [] each = tt
keys_all P (row ∷ rows) each = (
  each row.0 row.1 (rw (is_same-refl row.0) refl),
  keys_all P rows (λ q v found. elim (cases_Bool (eq_by_cmp key_cmp q row.0)) [
    | inl same ↦ each q row.1 (rw same refl)
    | inr apart ↦ each q v (rw apart found)
  ]),
)

key_all : (P : Bytes → Type 0) (rows : List Row) (q v : Bytes) → AllByRecursion (λ (row : Row). P row.0) rows
    → find key_cmp q rows ≡ Some v → P q
key_all P [] q v all found = absurd (cc)
key_all P (row ∷ rows) q v all found =
    elim (cases_Bool (eq_by_cmp key_cmp q row.0)) [
      | inl same ↦ subst P (sym (is_same-true q row.0 same)) all.0
      | inr apart ↦ key_all P rows q v all.1 (rw apart at found)
    ]

written_all : (P : Bytes → Type 0) (m : Table) (k : Bytes) (r : Option Bytes)
    → AllByRecursion (λ (row : Row). P row.0) (map.entries m) → P k
    → AllByRecursion (λ (row : Row). P row.0) (map.entries (with_record m k r))
written_all P m k r all new =
    keys_all P (map.entries (with_record m k r)) (λ q v found.
    let got : cond (eq_by_cmp key_cmp q k) r (map.get m q) ≡ Some v =
    sym (get-with_record m k r q) ∙ map.get-entries (with_record m k r) q ∙ found in
    elim (cases_Bool (eq_by_cmp key_cmp q k)) [
      | inl same ↦ subst P (sym (is_same-true q k same)) new
      | inr apart ↦ key_all P (map.entries m) q v all (sym (map.get-entries m q) ∙ (rw apart at got))
    ])

-- what is kept of a table's rows
pub entries_retained : (m : Table) (test : Bytes → Bool)
    → map.entries (map.retain_keys m test) ≡ filter (λ (row : Row). test row.0) (map.entries m)
entries_retained m test =
    let left = retained (map.entries m) test (own_rows m) in
    ap (λ (t : Table). map.entries t) (sym (left.1 ∙ ap (λ (t : Table). map.retain_keys t test) (table_again m)))
    ∙ entries-table_of (filter (λ (row : Row). test row.0) (map.entries m)) left.0

-- ---- leaves

pub kept_performed : (leaf : LeafView) (n : ℕ) (o : Op) → is_in_fences leaf (key_of o) ≡ true
    → captures leaf.ab n ≡ false → IsLeaf leaf → IsLeaf (performed leaf n o)
kept_performed leaf n o inside out kept =
    let fresh = uncaptured leaf.ab n out in
    let new : Entry = record { number = n; key = key_of o; answer = answer_in leaf.rows o } in
    record {
      rows = written_all (λ (k : Bytes). is_in_fences leaf k ≡ true) leaf.rows (key_of o)
          (value_after o (map.get leaf.rows (key_of o))) kept.rows inside;
      entries = all_placed (λ (e : Entry). is_in_fences leaf e.key ≡ true) new leaf.ab.entries inside kept.entries;
      rising = placed_rises new leaf.ab.low leaf.ab.entries fresh.0 kept.rising fresh.1;
    }

pub kept_raised : (leaf : LeafView) (l : ℕ) → IsLeaf leaf → IsLeaf (raised_to leaf l)
kept_raised leaf l kept = record {
  rows = kept.rows;
  entries = all_raised (λ (e : Entry). is_in_fences leaf e.key ≡ true) leaf.ab l kept.entries;
  rising = raised_rises leaf.ab l kept.rising;
}

pub kept_lower : (leaf : LeafView) (k : Bytes) (d : ℕ) → IsLeaf leaf → IsLeaf (lower_of leaf k d)
kept_lower leaf k d kept = record {
  rows = rw (entries_retained leaf.rows (is_under k))
      (all_kept _ _ (λ (row : Row). is_under k row.0)
      (λ row inside under. between_lower leaf.low_fence leaf.high_fence k row.0 inside under)
      (map.entries leaf.rows) kept.rows);
  entries = all_kept _ _ (λ (e : Entry). is_under k e.key)
      (λ e inside under. between_lower leaf.low_fence leaf.high_fence k e.key inside under) leaf.ab.entries
      kept.entries;
  rising = filtered_rises (λ (e : Entry). is_under k e.key) leaf.ab.low leaf.ab.entries kept.rising;
}

pub kept_upper : (leaf : LeafView) (k : Bytes) (id d : ℕ) → IsLeaf leaf → IsLeaf (upper_of leaf k id d)
kept_upper leaf k id d kept = record {
  rows = rw (entries_retained leaf.rows (is_from k))
      (all_kept _ _ (λ (row : Row). is_from k row.0)
      (λ row inside from. between_upper leaf.low_fence leaf.high_fence k row.0 inside from) (map.entries leaf.rows)
      kept.rows);
  entries = all_kept _ _ (λ (e : Entry). is_from k e.key)
      (λ e inside from. between_upper leaf.low_fence leaf.high_fence k e.key inside from) leaf.ab.entries kept.entries;
  rising = filtered_rises (λ (e : Entry). is_from k e.key) leaf.ab.low leaf.ab.entries kept.rising;
}

all_rises : (low : ℕ) (fs es : List Entry) → RiseAbove low es → RiseAbove low (placed_all low fs es)
all_rises low [] es rising = rising
all_rises low (f ∷ fs) es rising = all_rises low fs _ (above_rises_too low f es rising)

module _ (left right : LeafView) (d : ℕ) (left_kept : IsLeaf left) (right_kept : IsLeaf right)
    (next : AreNeighbours left right) where
  abbrev low : Option Bytes
  low = left.low_fence

  abbrev high : Option Bytes
  high = right.high_fence

  rows_under : LieBetween low (Some next.fence) (map.entries left.rows)
  rows_under = subst (λ (f : Option Bytes). LieBetween low f (map.entries left.rows)) next.ends left_kept.rows

  rows_from : LieBetween (Some next.fence) high (map.entries right.rows)
  rows_from = subst (λ (f : Option Bytes). LieBetween f high (map.entries right.rows)) next.begins right_kept.rows

  joined_rows : map.entries (joined_of left right d).rows ≡ map.entries left.rows ++ map.entries right.rows
  joined_rows =
      entries-table_of (map.entries left.rows ++ map.entries right.rows)
      (ordered_both next.fence (map.entries left.rows) (map.entries right.rows) (own_rows left.rows)
      (own_rows right.rows) (neighbours_apart left right left_kept right_kept next))

  entries_under : StandBetween low (Some next.fence) left.ab.entries
  entries_under = subst (λ (f : Option Bytes). StandBetween low f left.ab.entries) next.ends left_kept.entries

  entries_from : StandBetween (Some next.fence) high right.ab.entries
  entries_from = subst (λ (f : Option Bytes). StandBetween f high right.ab.entries) next.begins right_kept.entries

  pub kept_joined : IsLeaf (joined_of left right d)
  kept_joined = record {
    rows = rw joined_rows (all_appended _ (map.entries left.rows) (map.entries right.rows)
        (all_from _ _ (λ (row : Row) inside. lower_between low high next.fence row.0 next.below inside)
        (map.entries left.rows) rows_under)
        (all_from _ _ (λ (row : Row) inside. upper_between low high next.fence row.0 next.above inside)
        (map.entries right.rows) rows_from));
    entries = all_joined (λ (e : Entry). is_between low high e.key ≡ true) left.ab right.ab
        (all_from _ _ (λ (e : Entry) inside. lower_between low high next.fence e.key next.below inside) left.ab.entries
        entries_under)
        (all_from _ _ (λ (e : Entry) inside. upper_between low high next.fence e.key next.above inside) right.ab.entries
        entries_from);
    rising = all_rises _ right.ab.entries _ (raised_rises left.ab right.ab.low left_kept.rising);
  }

-- ---- the key at which a leaf is split

starts_past : (low : Option Bytes) (x y : Bytes) → starts_at_most low x ≡ true → is_below x y ≡ true
    → starts_below low y ≡ true
starts_past None x y starts below = refl
starts_past (Some low) x y starts below =
    elim (cases_Bool (is_below low y)) [
      | inl past ↦ past
      | inr free ↦ absurd (true≢false (sym (below_free x y low below free) ∙ not-true (is_below x low) starts))
    ]

row_between : (low high : Option Bytes) (rows : List Row) (p : ℕ) → LieBetween low high rows → p < length rows
    → is_between low high (key_in (slice_get rows p)) ≡ true
row_between low high [] p between within = absurd (omega (arith, within))
row_between low high (row ∷ rows) zero between within = between.0
row_between low high (row ∷ rows) (suc p) between within = row_between low high rows p between.1 (omega (arith, within))

row_above : (x : Bytes) (rows : List Row) (p : ℕ) → T (below_all key_cmp x rows) → p < length rows
    → is_below x (key_in (slice_get rows p)) ≡ true
row_above x [] p below within = absurd (omega (arith, within))
row_above x (row ∷ rows) zero below within = from_T _ (and_first _ _ below)
row_above x (row ∷ rows) (suc p) below within = row_above x rows p (and_second _ _ below) (omega (arith, within))

past_first : (low high : Option Bytes) (rows : List Row) (p : ℕ) → T (is_sorted key_cmp rows) → LieBetween low high rows
    → 0 < p → p < length rows
    → starts_below low (key_in (slice_get rows p)) ≡ true
past_first low high [] p sorted between some within = absurd (omega (arith, within))
past_first low high (row ∷ rows) zero sorted between some within = absurd (omega (arith, some))
past_first low high (row ∷ rows) (suc p) sorted between some within =
    starts_past low row.0 (key_in (slice_get rows p))
    (and_parts (starts_at_most low row.0) (ends_above high row.0) between.0).0
    (row_above row.0 rows p (and_first _ _ sorted) (omega (arith, within)))

halved : (n : ℕ) → nat_le 2 n ≡ true → (0 < n / 2) × (n / 2 < n)
halved n some = let two = leb-true 2 n some in (omega (arith, two), omega (arith, two))

-- it lies in the leaf, with keys of the leaf on both sides
pub cuts_inside : (leaf : LeafView) → IsLeaf leaf → may_split leaf ≡ true → IsInside (part_of leaf) (middle leaf)
cuts_inside leaf kept may =
    let half = halved (count leaf) may in
    let inside = row_between leaf.low_fence leaf.high_fence (map.entries leaf.rows) (count leaf / 2) kept.rows half.1 in
    record {
      under = (and_parts (starts_at_most leaf.low_fence (middle leaf)) (ends_above leaf.high_fence (middle leaf))
          inside).1;
      above = past_first leaf.low_fence leaf.high_fence (map.entries leaf.rows) (count leaf / 2)
          (map.entries_sorted leaf.rows) kept.rows half.0 half.1;
    }
