-- The leaf of a key, at its place.
use Rattle.std.proofs.Common.{◌≡◌, ℕ, ◌+◌, ◌<◌, List, [], ◌∷◌, length, get_or, refl, ap, ◌∙◌, subst, arith, add-one, inl, inr}
use Rattle.std.proofs.lemmas.Bool.{cases_Bool}
use Rattle.record_key.specs.Table.{Bytes}
use Rattle.dc_leaf.specs.Leaf.{LeafView, first, is_in_fences}
use Rattle.dc_tree.specs.Leaves.{leaf_at, place_at}

-- the leaf of a key stands at its place
leaf_at_place : (leaves : List LeafView) (k : Bytes) → place_at leaves k < length leaves
    → get_or leaves (place_at leaves k) first ≡ leaf_at leaves k
leaf_at_place [] k lt = absurd (omega (arith, lt))
leaf_at_place (leaf ∷ leaves) k lt =
    elim (cases_Bool (is_in_fences leaf k)) [
      | inl here ↦ rw here refl
      | inr other ↦
          let less : place_at leaves k + 1 < length (leaf ∷ leaves) = rw other at lt in
          rw (other, add-one) (leaf_at_place leaves k (omega (arith, less)))
    ]

pub leaf_there : (leaves : List LeafView) (k : Bytes) (p : ℕ) → p ≡ place_at leaves k → p < length leaves
    → get_or leaves p first ≡ leaf_at leaves k
leaf_there leaves k p is lt =
    ap (λ (q : ℕ). get_or leaves q first) is ∙ leaf_at_place leaves k (subst (λ (q : ℕ). q < length leaves) is lt)
