-- The records of leaves that divide all keys among them are those of one table.
use Rattle.std.proofs.Common.{◌≡◌, true, false, List, [], ◌∷◌, ◌++◌, Option, Some, None, refl, sym, ap, ◌∙◌, subst, inl, inr, append-nil}
use Rattle.std.specs.List.{AllByRecursion}
use Rattle.std.specs.FinMap as map
use Rattle.std.proofs.lemmas.Bool.{and_parts, and_from, not_from_false}
use Rattle.record_key.specs.Table.{Bytes, Table}
use Rattle.record_key.specs.Order.{is_below, starts_at_most, ends_above}
use Rattle.record_key.specs.Rows.{Row, AreInOrder, LieBetween, table_of}
use Rattle.record_key.proofs.Lists.{all_from, all_appended}
use Rattle.record_key.proofs.Rows.{entries-table_of, own_rows}
use Rattle.dc_ab_lsn.specs.Parting.{is_under, is_from}
use Rattle.dc_leaf.specs.Leaf.{LeafView, IsLeaf, is_in_fences}
use Rattle.dc_leaf.specs.Tiles.{parts_of, TileFrom}
use Rattle.dc_leaf.proofs.Halves.{Apart, apart_of, ordered_both, upper_between, get_retained, first_again, second_again, table_again}
use Rattle.dc_tree.specs.Leaves.{AreLeaves, leaf_at, all_rows, rows_of}
use Rattle.dc_tree.specs.TreeLaw.{OneTable}
use Rattle.dc_leaf.proofs.Starts.{starts_weaker}
use Rattle.dc_tree.proofs.Tiling.{IsLast, GoesOn, cases_tile, where_lies, within_from, there_from, starts_later}

-- rows in key order, from a fence on
pub record Ordered (from : Option Bytes) (rows : List Row) : Type 0 where
  pub rising : AreInOrder rows
  pub above : LieBetween from None rows

no_end : (low high : Option Bytes) (rows : List Row) → LieBetween low high rows → LieBetween low None rows
no_end low high rows between =
    all_from _ _ (λ (row : Row) inside. and_from (starts_at_most low row.0) true
    (and_parts (starts_at_most low row.0) (ends_above high row.0) inside).0 refl) rows between

only_rows : (from : Option Bytes) (leaf : LeafView) (rest : List LeafView) → IsLast from leaf rest → IsLeaf leaf
    → Ordered from (all_rows (leaf ∷ rest))
only_rows from leaf rest last kept =
    rw (last.alone, append-nil (map.entries leaf.rows))
    (record {
      rising = own_rows leaf.rows;
      above = subst (λ (low : Option Bytes). LieBetween low None (map.entries leaf.rows)) last.begins
          (no_end leaf.low_fence leaf.high_fence (map.entries leaf.rows) kept.rows);
    })

pub rows_apart : (from : Option Bytes) (leaf : LeafView) (rest : List LeafView) (on : GoesOn from leaf rest)
    (more : List Row)
    → IsLeaf leaf
    → LieBetween (Some on.fence) None more → Apart on.fence (map.entries leaf.rows) more
rows_apart from leaf rest on more kept above =
    apart_of leaf.low_fence None on.fence (map.entries leaf.rows) more
    (subst (λ (f : Option Bytes). LieBetween leaf.low_fence f (map.entries leaf.rows)) on.ends kept.rows) above

more_rows : (from : Option Bytes) (leaf : LeafView) (rest : List LeafView) (on : GoesOn from leaf rest) → IsLeaf leaf
    → Ordered (Some on.fence) (all_rows rest)
    → Ordered from (all_rows (leaf ∷ rest))
more_rows from leaf rest on kept ordered = record {
  rising = ordered_both on.fence (map.entries leaf.rows) (all_rows rest) (own_rows leaf.rows) ordered.rising
      (rows_apart from leaf rest on (all_rows rest) kept ordered.above);
  above = all_appended _ (map.entries leaf.rows) (all_rows rest)
      (subst (λ (low : Option Bytes). LieBetween low None (map.entries leaf.rows)) on.begins
      (no_end leaf.low_fence leaf.high_fence (map.entries leaf.rows) kept.rows))
      (all_from _ _ (λ (row : Row) inside. upper_between from None on.fence row.0 (starts_weaker from on.fence on.above)
      inside) (all_rows rest) ordered.above);
}

pub ordered_from : (from : Option Bytes) (leaves : List LeafView) → TileFrom from (parts_of leaves)
    → AllByRecursion IsLeaf leaves → Ordered from (all_rows leaves)
ordered_from from [] tile each = absurd tile
ordered_from from (leaf ∷ leaves) tile each =
    elim (cases_tile from leaf leaves tile) [
      | inl last ↦ only_rows from leaf leaves last each.0
      | inr on ↦ more_rows from leaf leaves on each.0 (ordered_from (Some on.fence) leaves on.later each.1)
    ]

-- ---- a key's value

-- the first leaf's rows, and the table of the others
two_tables : (leaf : LeafView) (rest : List LeafView) → AreInOrder (all_rows rest)
    → rows_of (leaf ∷ rest) ≡ table_of (map.entries leaf.rows ++ map.entries (rows_of rest))
two_tables leaf rest ordered =
    ap (λ (more : List Row). table_of (map.entries leaf.rows ++ more)) (sym (entries-table_of (all_rows rest) ordered))

module _ (from : Option Bytes) (leaf : LeafView) (rest : List LeafView) (on : GoesOn from leaf rest)
    (kept : IsLeaf leaf) (ordered : Ordered (Some on.fence) (all_rows rest)) where
  apart : Apart on.fence (map.entries leaf.rows) (map.entries (rows_of rest))
  apart = rows_apart from leaf rest on (map.entries (rows_of rest)) kept
      (subst (λ (more : List Row). LieBetween (Some on.fence) None more)
      (sym (entries-table_of (all_rows rest) ordered.rising)) ordered.above)

  value_under : (k : Bytes) → is_below k on.fence ≡ true → map.get (rows_of (leaf ∷ rest)) k ≡ map.get leaf.rows k
  value_under k under =
      ap (λ (m : Table). map.get m k) (two_tables leaf rest ordered.rising)
      ∙ sym (get_retained _ (is_under on.fence) k under)
      ∙ ap (λ (m : Table). map.get m k) (first_again on.fence leaf.rows (rows_of rest) apart)

  value_past : (k : Bytes) → is_below k on.fence ≡ false → map.get (rows_of (leaf ∷ rest)) k ≡ map.get (rows_of rest) k
  value_past k past =
      ap (λ (m : Table). map.get m k) (two_tables leaf rest ordered.rising)
      ∙ sym (get_retained _ (is_from on.fence) k (not_from_false (is_below k on.fence) past))
      ∙ ap (λ (m : Table). map.get m k) (second_again on.fence leaf.rows (rows_of rest) apart)

  value_first : (k : Bytes) → is_in_fences leaf k ≡ true → map.get (rows_of (leaf ∷ rest)) k ≡ map.get leaf.rows k
  value_first k here =
      value_under k (subst (λ (f : Option Bytes). ends_above f k ≡ true) on.ends
      (and_parts (starts_at_most leaf.low_fence k) (ends_above leaf.high_fence k) here).1)

value_alone : (from : Option Bytes) (leaf : LeafView) (rest : List LeafView) → IsLast from leaf rest
    → rows_of (leaf ∷ rest) ≡ leaf.rows
value_alone from leaf rest last = rw (last.alone, append-nil (map.entries leaf.rows)) (table_again leaf.rows)

value_here : (from : Option Bytes) (leaf : LeafView) (rest : List LeafView) (k : Bytes)
    → TileFrom from (parts_of (leaf ∷ rest)) → AllByRecursion IsLeaf (leaf ∷ rest)
    → is_in_fences leaf k ≡ true → map.get (rows_of (leaf ∷ rest)) k ≡ map.get leaf.rows k
value_here from leaf rest k tile each here =
    elim (cases_tile from leaf rest tile) [
      | inl last ↦ ap (λ (m : Table). map.get m k) (value_alone from leaf rest last)
      | inr on ↦ value_first from leaf rest on each.0 (ordered_from (Some on.fence) rest on.later each.1) k here
    ]

pub value_from : (from : Option Bytes) (leaves : List LeafView) (k : Bytes) → TileFrom from (parts_of leaves)
    → AllByRecursion IsLeaf leaves
    → starts_at_most from k ≡ true → map.get (rows_of leaves) k ≡ map.get (leaf_at leaves k).rows k
value_from from [] k tile each starts = absurd tile
value_from from (leaf ∷ leaves) k tile each starts =
    elim (where_lies from leaf leaves k tile starts) [
      | inl here ↦ rw here (value_here from leaf leaves k tile each here)
      | inr later ↦
          let ordered : Ordered (Some later.on.fence) (all_rows leaves) =
          ordered_from (Some later.on.fence) leaves later.on.later each.1 in
          rw later.outside
          (value_past from leaf leaves later.on each.0 ordered k later.past
          ∙ value_from (Some later.on.fence) leaves k later.on.later each.1 (starts_later k later.on.fence later.past))
    ]

pub in_order : (leaves : List LeafView) → AreLeaves leaves → AreInOrder (all_rows leaves)
in_order leaves kept = (ordered_from None leaves kept.tile kept.each).rising

pub one_table : (leaves : List LeafView) → AreLeaves leaves → OneTable leaves
one_table leaves kept = record {
  within = λ k. within_from None leaves k kept.tile refl;
  there = λ k. there_from None leaves k kept.tile refl;
  value = λ k. value_from None leaves k kept.tile kept.each refl;
  listed = entries-table_of (all_rows leaves) (in_order leaves kept);
}
