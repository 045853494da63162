-- Leaves of which one is parted in its middle.
use Rattle.std.proofs.Common.{◌≡◌, ◌⊎◌, ℕ, zero, suc, true, false, List, [], ◌∷◌, Option, Some, refl, sym, ap, ◌∙◌, subst, inl, inr, true≢false}
use Rattle.std.specs.List.{AllByRecursion}
use Rattle.std.proofs.lemmas.Bool.{cases_Bool, not_from_false, false_from_ne_true, and_right}
use Rattle.record_key.specs.Table.{Bytes}
use Rattle.record_key.specs.Order.{is_below, starts_at_most, ends_above}
use Rattle.dc_ab_lsn.specs.Parting.{is_under, is_from}
use Rattle.dc_leaf.specs.Leaf.{LeafView, IsLeaf, is_in_fences}
use Rattle.dc_leaf.specs.Parting.{upper_of, lower_of}
use Rattle.dc_leaf.specs.Tiles.{IsInside, part_of, parts_of, TileFrom}
use Rattle.dc_leaf.proofs.Halves.{between_lower, between_upper, lower_between, upper_between}
use Rattle.dc_tree.specs.Leaves.{leaf_at}
use Rattle.dc_tree.specs.Parting.{middle, may_split, may_split_at, split_at}
use Rattle.dc_leaf.proofs.Starts.{starts_weaker}
use Rattle.dc_tree.proofs.Tiling.{cases_tile, tile_last, tile_on}
use Rattle.dc_tree.proofs.Kept.{cuts_inside}

none_to_split : (rest : List LeafView) (p : ℕ) → rest ≡ [] → may_split_at rest p ≡ true → ⊥
none_to_split rest p alone may = true≢false (sym may ∙ ap (λ (r : List LeafView). may_split_at r p) alone)

-- what both halves have and the others had, all have
pub all_split : (P : LeafView → Type 0) (id d : ℕ)
    → ((leaf : LeafView) → IsLeaf leaf → may_split leaf ≡ true → P leaf → P (lower_of leaf (middle leaf) d)
    × P (upper_of leaf (middle leaf) id d))
    → (leaves : List LeafView) (p : ℕ) → AllByRecursion IsLeaf leaves → may_split_at leaves p ≡ true
    → AllByRecursion P leaves → AllByRecursion P (split_at p id d leaves)
all_split P id d halves [] p each may all = tt
all_split P id d halves (leaf ∷ leaves) zero each may all = let both = halves leaf each.0 may all.0 in
    (both.0, (both.1, all.1))
all_split P id d halves (leaf ∷ leaves) (suc p) each may all =
    (all.0, all_split P id d halves leaves p each.1 may all.1)

-- ---- the keys of both halves

split_first : (from : Option Bytes) (leaf : LeafView) (rest : List LeafView) (id d : ℕ)
    → IsInside (part_of leaf) (middle leaf) → TileFrom from (parts_of (leaf ∷ rest))
    → TileFrom from (parts_of (lower_of leaf (middle leaf) d ∷ upper_of leaf (middle leaf) id d ∷ rest))
split_first from leaf rest id d cut tile =
    let upper : LeafView = upper_of leaf (middle leaf) id d in
    let later : TileFrom (Some (middle leaf)) (parts_of (upper ∷ rest)) =
    elim (cases_tile from leaf rest tile) [
      | inl last ↦ subst (λ (r : List LeafView). TileFrom (Some (middle leaf)) (parts_of (upper ∷ r))) (sym last.alone)
          (tile_last (Some (middle leaf)) upper refl last.ends)
      | inr on ↦ tile_on (Some (middle leaf)) upper rest on.fence refl on.ends
          (subst (λ (high : Option Bytes). ends_above high (middle leaf) ≡ true) on.ends cut.under) on.later
    ] in
    (tile.0, (cut.above, later))

pub tile_split : (from : Option Bytes) (leaves : List LeafView) (p id d : ℕ) → TileFrom from (parts_of leaves)
    → AllByRecursion IsLeaf leaves → may_split_at leaves p ≡ true
    → TileFrom from (parts_of (split_at p id d leaves))
tile_split from [] p id d tile each may = absurd tile
tile_split from (leaf ∷ leaves) zero id d tile each may =
    split_first from leaf leaves id d (cuts_inside leaf each.0 may) tile
tile_split from (leaf ∷ leaves) (suc p) id d tile each may =
    elim (cases_tile from leaf leaves tile) [
      | inl last ↦ absurd (none_to_split leaves p last.alone may)
      | inr on ↦ tile_on from leaf (split_at p id d leaves) on.fence on.begins on.ends on.above
          (tile_split (Some on.fence) leaves p id d on.later each.1 may)
    ]

-- ---- the leaf of a key

-- the key lay in a leaf that was parted, and lies in its lower half
pub record HasLower (d : ℕ) (old new : LeafView) (k : Bytes) : Type 0 where
  pub cut : IsInside (part_of old) (middle old)
  pub held : is_in_fences old k ≡ true
  pub under : is_under (middle old) k ≡ true
  pub is : new ≡ lower_of old (middle old) d

-- or in its upper half
pub record HasUpper (id d : ℕ) (old new : LeafView) (k : Bytes) : Type 0 where
  pub cut : IsInside (part_of old) (middle old)
  pub held : is_in_fences old k ≡ true
  pub from : is_from (middle old) k ≡ true
  pub is : new ≡ upper_of old (middle old) id d

-- the leaf that a key has now, beside the one that it had
abbrev pub IsHalfAt : ℕ → ℕ → LeafView → LeafView → Bytes → Type 0
IsHalfAt id d old new k = (new ≡ old) ⊎ (HasLower d old new k ⊎ HasUpper id d old new k)

not_in_lower : (leaf : LeafView) (k : Bytes) (d : ℕ) → IsInside (part_of leaf) (middle leaf)
    → is_in_fences leaf k ≡ false → is_in_fences (lower_of leaf (middle leaf) d) k ≡ false
not_in_lower leaf k d cut outside =
    false_from_ne_true _ (λ inside. true≢false
    (sym (lower_between leaf.low_fence leaf.high_fence (middle leaf) k cut.under inside) ∙ outside))

not_in_upper : (leaf : LeafView) (k : Bytes) (id d : ℕ) → IsInside (part_of leaf) (middle leaf)
    → is_in_fences leaf k ≡ false → is_in_fences (upper_of leaf (middle leaf) id d) k ≡ false
not_in_upper leaf k id d cut outside =
    false_from_ne_true _ (λ inside. true≢false
    (sym (upper_between leaf.low_fence leaf.high_fence (middle leaf) k
    (starts_weaker leaf.low_fence (middle leaf) cut.above) inside) ∙ outside))

leaf_halved : (leaf : LeafView) (rest : List LeafView) (id d : ℕ) (k : Bytes) → IsInside (part_of leaf) (middle leaf)
    → IsHalfAt id d (leaf_at (leaf ∷ rest) k)
    (leaf_at (lower_of leaf (middle leaf) d ∷ upper_of leaf (middle leaf) id d ∷ rest) k) k
leaf_halved leaf rest id d k cut =
    elim (cases_Bool (is_in_fences leaf k)) [
      | inl held ↦ elim (cases_Bool (is_below k (middle leaf))) [
        | inl under ↦
            let inside : is_in_fences (lower_of leaf (middle leaf) d) k ≡ true =
            between_lower leaf.low_fence leaf.high_fence (middle leaf) k held under in
            rw (held, inside) (inr (inl (record { cut = cut; held = held; under = under; is = refl })))
        | inr free ↦
            let from : is_from (middle leaf) k ≡ true = not_from_false (is_below k (middle leaf)) free in
            let out : is_in_fences (lower_of leaf (middle leaf) d) k ≡ false =
            rw free (and_right (starts_at_most leaf.low_fence k) false refl) in
            let inside : is_in_fences (upper_of leaf (middle leaf) id d) k ≡ true =
            between_upper leaf.low_fence leaf.high_fence (middle leaf) k held from in
            rw (held, out, inside) (inr (inr (record { cut = cut; held = held; from = from; is = refl })))
      ]
      | inr outside ↦ rw (outside, not_in_lower leaf k d cut outside, not_in_upper leaf k id d cut outside) (inl refl)
    ]

pub leaf_split : (leaves : List LeafView) (p id d : ℕ) (k : Bytes) → AllByRecursion IsLeaf leaves
    → may_split_at leaves p ≡ true
    → IsHalfAt id d (leaf_at leaves k) (leaf_at (split_at p id d leaves) k) k
leaf_split [] p id d k each may = inl refl
leaf_split (leaf ∷ leaves) zero id d k each may = leaf_halved leaf leaves id d k (cuts_inside leaf each.0 may)
leaf_split (leaf ∷ leaves) (suc p) id d k each may =
    elim (cases_Bool (is_in_fences leaf k)) [
      | inl here ↦ rw here (inl refl)
      | inr later ↦ rw later (leaf_split leaves p id d k each.1 may)
    ]
