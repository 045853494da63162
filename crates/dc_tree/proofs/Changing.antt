-- Leaves of which one is changed, or each, with the keys that it has left to it.
use Rattle.std.proofs.Common.{◌≡◌, ◌+◌, ◌<◌, Bool, true, false, List, [], ◌∷◌, length, Option, Some, cond, map, refl, ap, ◌∙◌, arith, inl, inr}
use Rattle.std.specs.List.{AllByRecursion}
use Rattle.std.proofs.lemmas.Bool.{cases_Bool}
use Rattle.record_key.specs.Table.{Bytes}
use Rattle.record_key.specs.Order.{starts_at_most}
use Rattle.dc_leaf.specs.Leaf.{LeafView, is_in_fences}
use Rattle.dc_leaf.specs.Tiles.{Part, part_of, parts_of, holds, TileFrom}
use Rattle.dc_tree.specs.Leaves.{leaf_at, place_at, changed_at}
use Rattle.dc_tree.proofs.Tiling.{where_lies, starts_later, held_out}

pub all_changed : (P : LeafView → Type 0) (k : Bytes) (change : LeafView → LeafView) (leaves : List LeafView)
    → (P (leaf_at leaves k) → P (change (leaf_at leaves k))) → AllByRecursion P leaves
    → AllByRecursion P (changed_at k change leaves)
all_changed P k change [] step all = tt
all_changed P k change (leaf ∷ leaves) step all =
    elim (cases_Bool (is_in_fences leaf k)) [
      | inl here ↦ rw here ((rw here at step) all.0, all.1)
      | inr later ↦ rw later (all.0, all_changed P k change leaves (rw later at step) all.1)
    ]

module _ (change : LeafView → LeafView) (part_kept : (leaf : LeafView) → part_of (change leaf) ≡ part_of leaf) where
  same_fences : (leaf : LeafView) (k : Bytes) → is_in_fences (change leaf) k ≡ is_in_fences leaf k
  same_fences leaf k = ap (λ (p : Part). holds k p) (part_kept leaf)

  -- ---- the leaf of a key changed

  pub parts_changed : (k : Bytes) (leaves : List LeafView) → parts_of (changed_at k change leaves) ≡ parts_of leaves
  parts_changed k [] = refl
  parts_changed k (leaf ∷ leaves) =
      elim (cases_Bool (is_in_fences leaf k)) [
        | inl here ↦ rw here (ap (λ (p : Part). p ∷ parts_of leaves) (part_kept leaf))
        | inr later ↦ rw later (ap (λ (ps : List Part). part_of leaf ∷ ps) (parts_changed k leaves))
      ]

  pub changed_same : (from : Option Bytes) (leaves : List LeafView) (k q : Bytes) → TileFrom from (parts_of leaves)
      → starts_at_most from k ≡ true
      → is_in_fences (leaf_at leaves k) q ≡ true → leaf_at (changed_at k change leaves) q ≡ change (leaf_at leaves k)
  changed_same from [] k q tile starts inside = absurd tile
  changed_same from (leaf ∷ leaves) k q tile starts inside =
      elim (where_lies from leaf leaves k tile starts) [
        | inl here ↦
            let held : is_in_fences leaf q ≡ true = rw here at inside in
            rw (here, same_fences leaf q ∙ held) refl
        | inr later ↦
            let held : is_in_fences (leaf_at leaves k) q ≡ true = rw later.outside at inside in
            rw (later.outside, held_out from leaf leaves k q later held)
            (changed_same (Some later.on.fence) leaves k q later.on.later (starts_later k later.on.fence later.past)
            held)
      ]

  next : (b : Bool) (leaf : LeafView) (one other : LeafView) → one ≡ other → cond b leaf one ≡ cond b leaf other
  next b leaf one other same = ap (λ (rest : LeafView). cond b leaf rest) same

  pub changed_other : (leaves : List LeafView) (k q : Bytes) → is_in_fences (leaf_at leaves k) q ≡ false
      → leaf_at (changed_at k change leaves) q ≡ leaf_at leaves q
  changed_other [] k q outside = refl
  changed_other (leaf ∷ leaves) k q outside =
      elim (cases_Bool (is_in_fences leaf k)) [
        | inl here ↦
            let apart : is_in_fences leaf q ≡ false = rw here at outside in
            rw (here, same_fences leaf q ∙ apart, apart) refl
        | inr later ↦
            let apart : is_in_fences (leaf_at leaves k) q ≡ false = rw later at outside in
            rw later (next (is_in_fences leaf q) leaf _ _ (changed_other leaves k q apart))
      ]

  -- ---- each leaf changed

  pub parts_mapped : (leaves : List LeafView) → parts_of (map change leaves) ≡ parts_of leaves
  parts_mapped [] = refl
  parts_mapped (leaf ∷ leaves) = λ i. part_kept leaf i ∷ parts_mapped leaves i

  pub leaf_mapped : (leaves : List LeafView) (k : Bytes) → place_at leaves k < length leaves
      → leaf_at (map change leaves) k ≡ change (leaf_at leaves k)
  leaf_mapped [] k there = absurd (omega (arith, there))
  leaf_mapped (leaf ∷ leaves) k there =
      elim (cases_Bool (is_in_fences leaf k)) [
        | inl here ↦ rw (here, same_fences leaf k ∙ here) refl
        | inr later ↦
            let less : place_at leaves k + 1 < length (leaf ∷ leaves) = rw later at there in
            rw (later, same_fences leaf k ∙ later) (leaf_mapped leaves k (omega (arith, less)))
      ]

pub all_mapped : (P Q : LeafView → Type 0) (change : LeafView → LeafView)
    → ((leaf : LeafView) → P leaf → Q (change leaf)) → (leaves : List LeafView)
    → AllByRecursion P leaves → AllByRecursion Q (map change leaves)
all_mapped P Q change step [] all = tt
all_mapped P Q change step (leaf ∷ leaves) all = (step leaf all.0, all_mapped P Q change step leaves all.1)
