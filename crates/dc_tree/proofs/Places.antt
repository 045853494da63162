-- Which place among leaves may be split or merged, by what stands there.
use Rattle.std.proofs.Common.{◌≡◌, ℕ, zero, suc, ◌+◌, ◌<◌, ◌≤◌, true, false, List, [], ◌∷◌, length, get_or, Box, refl, sym, ap, ◌∙◌, arith, inl, inr, true≢false}
use Rattle.std.specs.declared.alloc.Global.{Global}
use Rattle.std.proofs.lemmas.Bool.{cases_lt}
use Rattle.std.proofs.lemmas.List.{get_or-map}
use Rattle.dc_leaf.specs.Leaf.{LeafView, first}
use Rattle.dc_tree.specs.Lists.{leaf_of, leaves_in}
use Rattle.dc_tree.specs.Parting.{may_split, may_join, may_split_at, may_merge_at}

-- the leaf in a box
pub in_box : (boxes : List (Box LeafView Global)) (p : ℕ) (b : Box LeafView Global) → p < length boxes
    → b ≡ get_or boxes p b
    → get_or (leaves_in boxes) p first ≡ b.value
in_box boxes p b within is = get_or-map leaf_of boxes p b first within ∙ ap leaf_of (sym is)

pub split_here : (leaves : List LeafView) (p : ℕ) → p < length leaves
    → may_split_at leaves p ≡ may_split (get_or leaves p first)
split_here [] p within = absurd (omega (arith, within))
split_here (leaf ∷ leaves) zero within = refl
split_here (leaf ∷ leaves) (suc p) within = split_here leaves p (omega (arith, within))

pub split_nowhere : (leaves : List LeafView) (p : ℕ) → length leaves ≤ p → may_split_at leaves p ≡ false
split_nowhere [] p past = refl
split_nowhere (leaf ∷ leaves) zero past = absurd (omega (arith, past))
split_nowhere (leaf ∷ leaves) (suc p) past = split_nowhere leaves p (omega (arith, past))

pub merge_here : (leaves : List LeafView) (p : ℕ) → p + 1 < length leaves
    → may_merge_at leaves p ≡ may_join (get_or leaves p first) (get_or leaves (suc p) first)
merge_here [] p within = absurd (omega (arith, within))
merge_here (leaf ∷ []) p within = absurd (omega (arith, within))
merge_here (left ∷ right ∷ leaves) zero within = refl
merge_here (left ∷ right ∷ leaves) (suc p) within = merge_here (right ∷ leaves) p (omega (arith, within))

pub merge_nowhere : (leaves : List LeafView) (p : ℕ) → length leaves ≤ p + 1 → may_merge_at leaves p ≡ false
merge_nowhere [] p past = refl
merge_nowhere (leaf ∷ []) p past = refl
merge_nowhere (left ∷ right ∷ leaves) zero past = absurd (omega (arith, past))
merge_nowhere (left ∷ right ∷ leaves) (suc p) past = merge_nowhere (right ∷ leaves) p (omega (arith, past))

pub split_within : (leaves : List LeafView) (p : ℕ) → may_split_at leaves p ≡ true → p < length leaves
split_within leaves p may =
    elim (cases_lt p (length leaves)) [
      | inl less ↦ less
      | inr past ↦ absurd (true≢false (sym may ∙ split_nowhere leaves p past))
    ]

pub merge_within : (leaves : List LeafView) (p : ℕ) → may_merge_at leaves p ≡ true → p + 1 < length leaves
merge_within leaves p may =
    elim (cases_lt (p + 1) (length leaves)) [
      | inl less ↦ less
      | inr past ↦ absurd (true≢false (sym may ∙ merge_nowhere leaves p past))
    ]
