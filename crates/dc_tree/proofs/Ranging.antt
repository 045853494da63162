-- A walk from a range's first leaf on finds all of its records.
use Rattle.std.proofs.Common.{◌≡◌, ℕ, Bool, true, false, filter, List, [], ◌∷◌, ◌++◌, drop, Option, Some, None, refl, sym, ap, ◌∙◌, subst, add-one, append-nil, inl, inr, true≢false}
use Rattle.std.specs.Prelude.{not}
use Rattle.std.specs.List.{AllByRecursion}
use Rattle.std.specs.FinMap as map
use Rattle.std.proofs.lemmas.Bool.{cases_Bool, and_parts, and_from, not-true, not_from_false}
use Rattle.record_key.specs.Table.{Bytes}
use Rattle.record_key.specs.Order.{is_below, starts_at_most, ends_above, Range, has_key, rows_in}
use Rattle.record_key.specs.Rows.{Row}
use Rattle.record_key.proofs.Lists.{all_from}
use Rattle.dc_leaf.specs.Leaf.{LeafView, IsLeaf, is_in_fences}
use Rattle.dc_leaf.specs.Tiles.{parts_of, TileFrom}
use Rattle.dc_leaf.proofs.Halves.{below_free, free_below}
use Rattle.dc_leaf.proofs.Starts.{starts_weaker}
use Rattle.dc_tree.specs.Finding.{IsPlaceOf}
use Rattle.dc_tree.specs.Leaves.{AreLeaves, place_at, rows_of}
use Rattle.dc_tree.specs.Lists.{is_past}
use Rattle.dc_tree.specs.Scanned.{ends_within, found_on, found_from}
use Rattle.dc_tree.proofs.PlaceOf.{place_found}
use Rattle.dc_tree.proofs.Scanning.{found_in, found_all, found_after, none_before}
use Rattle.dc_tree.proofs.Tiling.{cases_tile, where_lies, starts_later}

all_pass : (test : Row → Bool) (rows : List Row)
    → AllByRecursion (λ (row : Row). test row ≡ true) rows → filter test rows ≡ rows
all_pass test [] all = refl
all_pass test (row ∷ rows) all = rw all.0 (ap (λ (rest : List Row). row ∷ rest) (all_pass test rows all.1))

-- what is below a key isn't above it
not_below : (x y : Bytes) → is_below x y ≡ true → is_below y x ≡ false
not_below x y below = not-true (is_below y x) (starts_weaker (Some x) y below)

-- a key of a leaf that ends within a range is below the range's end
ends_before : (high end : Option Bytes) (x : Bytes) → ends_within high end ≡ true → ends_above high x ≡ true
    → ends_above end x ≡ true
ends_before high None x within ends = refl
ends_before None (Some end) x within ends = absurd (true≢false (sym within))
ends_before (Some fence) (Some end) x within ends = below_free x fence end ends (not-true (is_below end fence) within)

-- what begins at a fence past the range's end begins past it
begins_over : (fence : Bytes) (end : Option Bytes) → ends_within (Some fence) end ≡ false
    → is_past (Some fence) end ≡ true
begins_over fence None over = absurd (true≢false over)
begins_over fence (Some end) over =
    elim (cases_Bool (is_below end fence)) [
      | inl below ↦ starts_weaker (Some end) fence below
      | inr free ↦ absurd (true≢false (sym (ap not free) ∙ over))
    ]

module _ (s : Range) where
  -- all records of a leaf that begins where the range does or above, and ends within it
  all_within : (leaf : LeafView) (fence : Bytes) → IsLeaf leaf → leaf.low_fence ≡ Some fence
      → is_below fence s.lo ≡ false → ends_within leaf.high_fence s.hi ≡ true → rows_in s leaf.rows ≡ map.entries leaf.rows
  all_within leaf fence kept begins above within =
      all_pass (λ (row : Row). has_key s row.0) (map.entries leaf.rows)
      (all_from _ _ (λ (row : Row) inside.
      let both = and_parts (starts_at_most leaf.low_fence row.0) (ends_above leaf.high_fence row.0) inside in
      let from : starts_at_most (Some fence) row.0 ≡ true =
      subst (λ (low : Option Bytes). starts_at_most low row.0 ≡ true) begins both.0 in
      and_from (not (is_below row.0 s.lo)) (ends_above s.hi row.0)
      (not_from_false (is_below row.0 s.lo)
      (free_below row.0 fence s.lo (not-true (is_below row.0 fence) from) above))
      (ends_before leaf.high_fence s.hi row.0 within both.1))
      (map.entries leaf.rows) kept.rows)

  -- none after a leaf that ends past it
  none_from : (fence : Bytes) (leaves : List LeafView) → TileFrom (Some fence) (parts_of leaves)
      → AllByRecursion IsLeaf leaves → is_past (Some fence) s.hi ≡ true → found_in s leaves ≡ []
  none_from fence [] tile each past = absurd tile
  none_from fence (leaf ∷ leaves) tile each past =
      found_after s (Some fence) leaf leaves tile each
      (ap (λ (low : Option Bytes). is_past low s.hi) tile.0 ∙ past)

  none_over : (from : Option Bytes) (leaf : LeafView) (rest : List LeafView) → TileFrom from (parts_of (leaf ∷ rest))
      → AllByRecursion IsLeaf (leaf ∷ rest) → ends_within leaf.high_fence s.hi ≡ false → found_in s rest ≡ []
  none_over from leaf rest tile each over =
      elim (cases_tile from leaf rest tile) [
        | inl last ↦ ap (found_in s) last.alone
        | inr on ↦
            none_from on.fence rest on.later each.1
            (begins_over on.fence s.hi (subst (λ (high : Option Bytes). ends_within high s.hi ≡ false) on.ends over))
      ]

  -- the leaves after the range's first, up to one that ends past it
  on_all : (fence : Bytes) (leaves : List LeafView) → TileFrom (Some fence) (parts_of leaves)
      → AllByRecursion IsLeaf leaves → is_below fence s.lo ≡ false → found_on s leaves ≡ found_in s leaves
  on_all fence [] tile each above = absurd tile
  on_all fence (leaf ∷ rest) tile each above =
      elim (cases_Bool (ends_within leaf.high_fence s.hi)) [
        | inl within ↦
            let more : found_on s rest ≡ found_in s rest =
            elim (cases_tile (Some fence) leaf rest tile) [
              | inl last ↦ ap (found_on s) last.alone ∙ sym (ap (found_in s) last.alone)
              | inr on ↦
                  on_all on.fence rest on.later each.1
                  (free_below on.fence fence s.lo (not_below fence on.fence on.above) above)
            ] in
            rw within
            (ap (λ (rows : List Row). rows ++ found_on s rest) (sym (all_within leaf fence each.0 tile.0 above within))
            ∙ ap (λ (rows : List Row). rows_in s leaf.rows ++ rows) more)
        | inr over ↦
            rw over
            (sym (ap (λ (rows : List Row). rows_in s leaf.rows ++ rows) (none_over (Some fence) leaf rest tile each over)
            ∙ append-nil (rows_in s leaf.rows)))
      ]

  from_first : (from : Option Bytes) (leaf : LeafView) (rest : List LeafView) → TileFrom from (parts_of (leaf ∷ rest))
      → AllByRecursion IsLeaf (leaf ∷ rest) → is_in_fences leaf s.lo ≡ true
      → found_in s (leaf ∷ rest) ≡ found_from s (leaf ∷ rest)
  from_first from leaf rest tile each holds =
      ap (λ (rows : List Row). rows_in s leaf.rows ++ rows)
      (elim (cases_Bool (ends_within leaf.high_fence s.hi)) [
        | inl within ↦
            rw within
            (elim (cases_tile from leaf rest tile) [
              | inl last ↦ ap (found_in s) last.alone ∙ sym (ap (found_on s) last.alone)
              | inr on ↦
                  let ends : is_below s.lo on.fence ≡ true =
                  subst (λ (high : Option Bytes). ends_above high s.lo ≡ true) on.ends
                  (and_parts (starts_at_most leaf.low_fence s.lo) (ends_above leaf.high_fence s.lo) holds).1 in
                  sym (on_all on.fence rest on.later each.1 (not_below s.lo on.fence ends))
            ])
        | inr over ↦ rw over (none_over from leaf rest tile each over)
      ])

  from_all : (from : Option Bytes) (leaves : List LeafView) → TileFrom from (parts_of leaves)
      → AllByRecursion IsLeaf leaves → starts_at_most from s.lo ≡ true
      → found_in s leaves ≡ found_from s (drop (place_at leaves s.lo) leaves)
  from_all from [] tile each starts = absurd tile
  from_all from (leaf ∷ rest) tile each starts =
      elim (where_lies from leaf rest s.lo tile starts) [
        | inl here ↦ rw here (from_first from leaf rest tile each here)
        | inr later ↦
            rw (later.outside, add-one)
            (ap (λ (rows : List Row). rows ++ found_in s rest) (none_before s from leaf rest each.0 later)
            ∙ from_all (Some later.on.fence) rest later.on.later each.1
            (starts_later s.lo later.on.fence later.past))
      ]

  pub scanned_all : (leaves : List LeafView) (p : ℕ) → AreLeaves leaves → IsPlaceOf leaves s.lo p
      → found_from s (drop p leaves) ≡ rows_in s (rows_of leaves)
  scanned_all leaves p kept at =
      ap (λ (q : ℕ). found_from s (drop q leaves)) (place_found leaves s.lo p kept at)
      ∙ sym (found_all s leaves kept ∙ from_all None leaves kept.tile kept.each refl)
