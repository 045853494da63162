-- Each leaf is that of the keys in its fences; and the leaf that a split or a merge puts in place is among the leaves.
use Rattle.std.proofs.Common.{◌≡◌, ℕ, ◌+◌, true, false, zero, suc, List, [], ◌∷◌, Option, Some, None, refl, sym, subst, arith, inl, inr, true≢false, get_or}
use Rattle.std.specs.List.{AllByRecursion}
use Rattle.std.proofs.lemmas.Bool.{not-true, and_parts, and_right}
use Rattle.record_key.specs.Table.{Bytes}
use Rattle.record_key.specs.Order.{is_below, starts_at_most, ends_above}
use Rattle.record_key.proofs.Lists.{all_from}
use Rattle.dc_leaf.specs.Leaf.{LeafView, first, is_in_fences}
use Rattle.dc_leaf.specs.Parting.{upper_of, joined_of}
use Rattle.dc_leaf.specs.Tiles.{parts_of, TileFrom}
use Rattle.dc_leaf.proofs.Halves.{from_low}
use Rattle.dc_tree.specs.Leaves.{AreLeaves, leaf_at}
use Rattle.dc_tree.specs.Parting.{middle, may_split_at, may_merge_at, split_at, merged_at}
use Rattle.dc_leaf.proofs.Starts.{starts_weaker}
use Rattle.dc_tree.proofs.Tiling.{GoesOn, cases_tile}

-- a key in the leaf's fences has this leaf, and lies where the leaves begin, or above
abbrev Owns : Option Bytes → List LeafView → LeafView → Type 0
Owns from leaves leaf = (k : Bytes) → is_in_fences leaf k ≡ true → (starts_at_most from k ≡ true)
    × (leaf_at leaves k ≡ leaf)

owns_later : (from : Option Bytes) (leaf : LeafView) (rest : List LeafView) (on : GoesOn from leaf rest)
    (other : LeafView)
    → Owns (Some on.fence) rest other → Owns from (leaf ∷ rest) other
owns_later from leaf rest on other owns k inside =
    let past : is_below k on.fence ≡ false = not-true (is_below k on.fence) (owns k inside).0 in
    let outside : is_in_fences leaf k ≡ false =
    rw (on.ends, past) (and_right (starts_at_most leaf.low_fence k) false refl) in
    (from_low from k on.fence past (starts_weaker from on.fence on.above), rw outside (owns k inside).1)

owns_first : (from : Option Bytes) (leaf : LeafView) (rest : List LeafView) → leaf.low_fence ≡ from
    → Owns from (leaf ∷ rest) leaf
owns_first from leaf rest begins k inside = (
  subst (λ (low : Option Bytes). starts_at_most low k ≡ true) begins
      (and_parts (starts_at_most leaf.low_fence k) (ends_above leaf.high_fence k) inside).0,
  rw inside refl,
)

all_own : (from : Option Bytes) (leaves : List LeafView) → TileFrom from (parts_of leaves)
    → AllByRecursion (Owns from leaves) leaves
all_own from [] tile = absurd tile
all_own from (leaf ∷ rest) tile =
    elim (cases_tile from leaf rest tile) [
      | inl last ↦ (
        owns_first from leaf rest last.begins,
        subst (λ (ls : List LeafView). AllByRecursion (Owns from (leaf ∷ rest)) ls) (sym last.alone) tt,
      )
      | inr on ↦ (
        owns_first from leaf rest on.begins,
        all_from (Owns (Some on.fence) rest) (Owns from (leaf ∷ rest)) (λ other. owns_later from leaf rest on other)
            rest (all_own (Some on.fence) rest on.later),
      )
    ]

pub own_leaves : (leaves : List LeafView) → AreLeaves leaves
    → AllByRecursion (λ (leaf : LeafView). (k : Bytes) → is_in_fences leaf k ≡ true → leaf_at leaves k ≡ leaf) leaves
own_leaves leaves kept =
    all_from (Owns None leaves)
    (λ (leaf : LeafView). (k : Bytes) → is_in_fences leaf k ≡ true → leaf_at leaves k ≡ leaf)
    (λ leaf owns k inside. (owns k inside).1)
    leaves (all_own None leaves kept.tile)

-- the new leaf of a split, and the one leaf of a merge
pub the_upper : (P : LeafView → Type 0) (leaves : List LeafView) (p id d : ℕ) → may_split_at leaves p ≡ true
    → AllByRecursion P (split_at p id d leaves)
    → P (upper_of (get_or leaves p first) (middle (get_or leaves p first)) id d)
the_upper P [] p id d may all = absurd (true≢false (sym may))
the_upper P (leaf ∷ leaves) zero id d may all = all.1.0
the_upper P (leaf ∷ leaves) (suc p) id d may all = the_upper P leaves p id d may all.1

pub the_merged : (P : LeafView → Type 0) (leaves : List LeafView) (p d : ℕ) → may_merge_at leaves p ≡ true
    → AllByRecursion P (merged_at p d leaves)
    → P (joined_of (get_or leaves p first) (get_or leaves (p + 1) first) d)
the_merged P [] p d may all = absurd (true≢false (sym may))
the_merged P (leaf ∷ []) p d may all = absurd (true≢false (sym may))
the_merged P (left ∷ right ∷ leaves) zero d may all = all.0
the_merged P (left ∷ right ∷ leaves) (suc p) d may all =
    let e : suc p + 1 ≡ suc (p + 1) = omega arith in rw e (the_merged P (right ∷ leaves) p d may all.1)
