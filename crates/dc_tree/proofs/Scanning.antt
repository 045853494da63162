-- The records of a range, leaf by leaf, where leaves are held in things of any kind.
use Rattle.std.proofs.Common.{◌≡◌, ℕ, zero, suc, ◌<◌, ◌≤◌, true, false, filter, List, [], ◌∷◌, ◌++◌, length, get_or, take, drop, take_all, map, Option, Some, None, refl, sym, ap, ◌∙◌, subst, arith, add-one, append_assoc, append-nil, inl, inr, true≢false}
use Rattle.std.specs.Prelude.{not}
use Rattle.std.specs.List.{AllByRecursion}
use Rattle.std.specs.FinMap as map
use Rattle.std.proofs.lemmas.Bool.{and_parts, and_right, false_from_ne_true, not-true}
use Rattle.std.proofs.lemmas.List.Elements.{filter-append}
use Rattle.record_key.specs.Table.{Bytes}
use Rattle.record_key.specs.Order.{is_below, starts_at_most, ends_above, Range, has_key, rows_in}
use Rattle.record_key.specs.Rows.{Row}
use Rattle.record_key.proofs.Lists.{all_from}
use Rattle.record_key.proofs.Rows.{entries-table_of}
use Rattle.dc_leaf.specs.Leaf.{LeafView, IsLeaf}
use Rattle.dc_leaf.specs.Tiles.{parts_of, TileFrom}
use Rattle.dc_leaf.proofs.Halves.{below_free, none_pass}
use Rattle.dc_tree.specs.Leaves.{AreLeaves, place_at, all_rows, rows_of}
use Rattle.dc_tree.specs.Lists.{is_past}
use Rattle.dc_tree.proofs.Tiling.{LiesLater, cases_tile, where_lies, starts_later}
use Rattle.dc_tree.proofs.Together.{ordered_from, in_order}
use Rattle.dc_tree.proofs.Searching.{none_there}

-- the records of a range in each leaf
abbrev pub found_in : Range → List LeafView → List Row
found_in s [] = []
found_in s (leaf ∷ leaves) = rows_in s leaf.rows ++ found_in s leaves

found_rows : (s : Range) (leaves : List LeafView)
    → filter (λ (row : Row). has_key s row.0) (all_rows leaves) ≡ found_in s leaves
found_rows s [] = refl
found_rows s (leaf ∷ leaves) =
    filter-append (λ (row : Row). has_key s row.0) (map.entries leaf.rows) (all_rows leaves)
    ∙ ap (λ (more : List Row). rows_in s leaf.rows ++ more) (found_rows s leaves)

pub found_all : (s : Range) (leaves : List LeafView) → AreLeaves leaves → rows_in s (rows_of leaves) ≡ found_in s leaves
found_all s leaves kept =
    ap (λ (rows : List Row). filter (λ (row : Row). has_key s row.0) rows)
    (entries-table_of (all_rows leaves) (in_order leaves kept)) ∙ found_rows s leaves

-- ---- leaves that end at most where the range begins

pub none_before : (s : Range) (from : Option Bytes) (leaf : LeafView) (rest : List LeafView) → IsLeaf leaf
    → LiesLater from leaf rest s.lo → rows_in s leaf.rows ≡ []
none_before s from leaf rest kept later =
    none_pass (has_key s) (map.entries leaf.rows)
    (all_from _ _ (λ (row : Row) inside.
    let ends = (and_parts (starts_at_most leaf.low_fence row.0) (ends_above leaf.high_fence row.0) inside).1 in
    let under : is_below row.0 later.on.fence ≡ true =
    subst (λ (f : Option Bytes). ends_above f row.0 ≡ true) later.on.ends ends in
    rw (below_free row.0 later.on.fence s.lo under later.past) refl)
    (map.entries leaf.rows) kept.rows)

pub found_before : (s : Range) (from : Option Bytes) (leaves : List LeafView) → TileFrom from (parts_of leaves)
    → AllByRecursion IsLeaf leaves
    → starts_at_most from s.lo ≡ true → found_in s leaves ≡ found_in s (drop (place_at leaves s.lo) leaves)
found_before s from [] tile each starts = absurd tile
found_before s from (leaf ∷ leaves) tile each starts =
    elim (where_lies from leaf leaves s.lo tile starts) [
      | inl here ↦ rw here refl
      | inr later ↦
          rw (later.outside, add-one)
          (ap (λ (rows : List Row). rows ++ found_in s leaves) (none_before s from leaf leaves each.0 later)
          ∙ found_before s (Some later.on.fence) leaves later.on.later each.1
          (starts_later s.lo later.on.fence later.past))
    ]

-- ---- leaves that begin where the range ends, or above

past_end : (low high : Option Bytes) (x : Bytes) → is_past low high ≡ true → starts_at_most low x ≡ true
    → ends_above high x ≡ false
past_end None high x past starts = absurd (true≢false (sym past))
past_end (Some low) None x past starts = absurd (true≢false (sym past))
past_end (Some low) (Some high) x past starts =
    false_from_ne_true (is_below x high) (λ under.
    true≢false (sym (below_free x high low under (not-true (is_below low high) past))
    ∙ not-true (is_below x low) starts))

pub found_after : (s : Range) (from : Option Bytes) (leaf : LeafView) (rest : List LeafView)
    → TileFrom from (parts_of (leaf ∷ rest)) → AllByRecursion IsLeaf (leaf ∷ rest)
    → is_past leaf.low_fence s.hi ≡ true → found_in s (leaf ∷ rest) ≡ []
found_after s from leaf rest tile each past =
    sym (found_rows s (leaf ∷ rest))
    ∙ none_pass (has_key s) (all_rows (leaf ∷ rest))
    (all_from _ _ (λ (row : Row) inside.
    let starts = (and_parts (starts_at_most from row.0) true inside).0 in
    and_right (not (is_below row.0 s.lo)) (ends_above s.hi row.0)
    (past_end leaf.low_fence s.hi row.0 past
    (subst (λ (low : Option Bytes). starts_at_most low row.0 ≡ true) (sym tile.0) starts)))
    (all_rows (leaf ∷ rest)) (ordered_from from (leaf ∷ rest) tile each).above)

module _ {X : Type 0} (leaf_of : X → LeafView) (s : Range) where
  pub found_more : (xs : List X) (i : ℕ) (x d : X) → i < length xs → leaf_of x ≡ leaf_of (get_or xs i d)
      → found_in s (map leaf_of (take (suc i) xs)) ≡ found_in s (map leaf_of (take i xs)) ++ rows_in s (leaf_of x).rows
  found_more [] i x d within is = absurd (omega (arith, within))
  found_more (y ∷ xs) zero x d within is =
      append-nil (rows_in s (leaf_of y).rows) ∙ ap (λ (leaf : LeafView). rows_in s leaf.rows) (sym is)
  found_more (y ∷ xs) (suc i) x d within is =
      ap (λ (more : List Row). rows_in s (leaf_of y).rows ++ more) (found_more xs i x d (omega (arith, within)) is)
      ∙ sym (append_assoc (rows_in s (leaf_of y).rows) (found_in s (map leaf_of (take i xs)))
      (rows_in s (leaf_of x).rows))

  -- where a leaf begins past the range, it and those after it have none of it
  found_past : (from : Option Bytes) (xs : List X) (i : ℕ) (d : X) → TileFrom from (parts_of (map leaf_of xs))
      → AllByRecursion IsLeaf (map leaf_of xs) → i < length xs
      → is_past (leaf_of (get_or xs i d)).low_fence s.hi ≡ true
      → found_in s (map leaf_of xs) ≡ found_in s (map leaf_of (take i xs))
  found_past from [] i d tile each within past = absurd tile
  found_past from (x ∷ xs) zero d tile each within past = found_after s from (leaf_of x) (map leaf_of xs) tile each past
  found_past from (x ∷ xs) (suc i) d tile each within past =
      elim (cases_tile from (leaf_of x) (map leaf_of xs) tile) [
        | inl last ↦ absurd (none_there leaf_of xs i last.alone (omega (arith, within)))
        | inr on ↦
            ap (λ (more : List Row). rows_in s (leaf_of x).rows ++ more)
            (found_past (Some on.fence) xs i d on.later each.1 (omega (arith, within)) past)
      ]

  -- leaves from one of them on
  record FromPlace (xs : List X) : Type 0 where
    pub from : Option Bytes
    pub tile : TileFrom from (parts_of (map leaf_of xs))
    pub each : AllByRecursion IsLeaf (map leaf_of xs)

  from_place : (from : Option Bytes) (xs : List X) (i : ℕ) → TileFrom from (parts_of (map leaf_of xs))
      → AllByRecursion IsLeaf (map leaf_of xs) → i < length xs
      → FromPlace (drop i xs)
  from_place from [] i tile each within = absurd tile
  from_place from (x ∷ xs) zero tile each within = record { from = from; tile = tile; each = each }
  from_place from (x ∷ xs) (suc i) tile each within =
      elim (cases_tile from (leaf_of x) (map leaf_of xs) tile) [
        | inl last ↦ absurd (none_there leaf_of xs i last.alone (omega (arith, within)))
        | inr on ↦ from_place (Some on.fence) xs i on.later each.1 (omega (arith, within))
      ]

  drop_map : (i : ℕ) (xs : List X) → drop i (map leaf_of xs) ≡ map leaf_of (drop i xs)
  drop_map zero xs = refl
  drop_map (suc i) [] = refl
  drop_map (suc i) (x ∷ xs) = drop_map i xs

  -- those from the range's first leaf on have all of it
  module _ (xs ys : List X) (p : ℕ) (kept : AreLeaves (map leaf_of xs)) (at : p ≡ place_at (map leaf_of xs) s.lo)
      (are : ys ≡ drop p xs) where
    found_there : rows_in s (rows_of (map leaf_of xs)) ≡ found_in s (map leaf_of ys)
    found_there =
        found_all s (map leaf_of xs) kept
        ∙ found_before s None (map leaf_of xs) kept.tile kept.each refl
        ∙ ap (λ (leaves : List LeafView). found_in s leaves)
        (ap (λ (q : ℕ). drop q (map leaf_of xs)) (sym at) ∙ drop_map p xs
        ∙ ap (λ (zs : List X). map leaf_of zs) (sym are))

    -- and so have those before one that begins past the range
    pub found_stopped : (i : ℕ) (x : X) → p < length xs → i < length ys → x ≡ get_or ys i x
        → is_past (leaf_of x).low_fence s.hi ≡ true
        → found_in s (map leaf_of (take i ys)) ≡ rows_in s (rows_of (map leaf_of xs))
    found_stopped i x within less is past =
        let suffix : FromPlace ys =
        subst (λ (zs : List X). FromPlace zs) (sym are) (from_place None xs p kept.tile kept.each within) in
        let there : is_past (leaf_of (get_or ys i x)).low_fence s.hi ≡ true =
        ap (λ (y : X). is_past (leaf_of y).low_fence s.hi) (sym is) ∙ past in
        sym (found_there ∙ found_past suffix.from ys i x suffix.tile suffix.each less there)

    pub found_ended : (i : ℕ) → length ys ≤ i
        → found_in s (map leaf_of (take i ys)) ≡ rows_in s (rows_of (map leaf_of xs))
    found_ended i le = sym (found_there ∙ ap (λ (zs : List X). found_in s (map leaf_of zs)) (sym (take_all i ys le)))
