-- The first large leaf and the first two neighbours that may be joined, none with an entry above a known end, as a walk
-- finds them.
use Rattle.std.proofs.Common.{◌≡◌, ℕ, zero, suc, ◌+◌, ◌<◌, ◌≤◌, true, false, List, [], ◌∷◌, length, get_or, drop, Option, Some, None, refl, sym, ap, ◌∙◌, subst, arith, inl, inr}
use Rattle.std.specs.Option.{option_map}
use Rattle.std.proofs.lemmas.Bool.{cases_Bool, ltb-true, le-leb, and_parts}
use Rattle.std.proofs.Math.Seq.{drop-cons}
use Rattle.std.proofs.lemmas.List.{drop_all}
use Rattle.dc_leaf.specs.Leaf.{LeafView, first}
use Rattle.dc_leaf.specs.Tops.{is_within, are_within}
use Rattle.dc_tree.specs.Choosing.{is_due, are_due, first_large, first_pair}
use Rattle.dc_tree.specs.Parting.{count, may_split, is_large, may_join, may_split_at, may_merge_at}
use Rattle.dc_tree.proofs.Places.{split_within, merge_within}

-- a large leaf may be split
large_may : (leaf : LeafView) → is_large leaf ≡ true → may_split leaf ≡ true
large_may leaf large = let more = ltb-true 8 (count leaf) large in le-leb 2 (count leaf) (omega (arith, more))

-- the place of the first that passes is a later one where the first of all doesn't pass
later : (o : Option ℕ) (p : ℕ) → option_map (λ q. q + 1) o ≡ Some p → (q : ℕ) × (o ≡ Some q) × (p ≡ suc q)
later None p e = absurd (cc)
later (Some q) p e = let same : q + 1 ≡ p = cc in (q, refl, omega (arith, same))

moved : (p : ℕ) (o : Option ℕ) → option_map (λ q. p + q) (option_map (λ q. q + 1) o) ≡ option_map (λ q. suc p + q) o
moved p None = refl
moved p (Some q) = ap (λ (n : ℕ). Some n) (omega arith)

-- what is found of all leaves is what is found of those from a place on
abbrev pub FromPlace : (List LeafView → Option ℕ) → List LeafView → ℕ → Type 0
FromPlace find leaves p = find leaves ≡ option_map (λ q. p + q) (find (drop p leaves))

-- a search that begins at the first leaf
pub from_start : (o : Option ℕ) → o ≡ option_map (λ q. 0 + q) o
from_start None = refl
from_start (Some q) = ap (λ (n : ℕ). Some n) (omega arith)

module _ (known : ℕ) where
  -- the leaf at a place may be split, and may be joined with the one after it, with no entry above the known end
  pub record IsLargeAt (leaves : List LeafView) (p : ℕ) : Type 0 where
    pub may : may_split_at leaves p ≡ true
    pub within : is_within known (get_or leaves p first) ≡ true

  pub record IsPairAt (leaves : List LeafView) (p : ℕ) : Type 0 where
    pub may : may_merge_at leaves p ≡ true
    pub within : are_within known (get_or leaves p first) (get_or leaves (suc p) first) ≡ true

  pub first_large_at : (leaves : List LeafView) (p : ℕ) → first_large known leaves ≡ Some p → IsLargeAt leaves p
  first_large_at [] p e = absurd (cc)
  first_large_at (leaf ∷ leaves) p e =
      elim (cases_Bool (is_due known leaf)) [
        | inl due ↦
            let here : Some 0 ≡ Some p = rw due at e in
            let same : 0 ≡ p = cc in
            let both = and_parts (is_large leaf) (is_within known leaf) due in
            subst (IsLargeAt (leaf ∷ leaves)) same (record { may = large_may leaf both.0; within = both.1 })
        | inr other ↦
            let on = later (first_large known leaves) p (rw other at e) in
            let rest = first_large_at leaves on.0 on.1 in
            subst (IsLargeAt (leaf ∷ leaves)) (sym on.2) (record { may = rest.may; within = rest.within })
      ]

  pub first_pair_at : (leaves : List LeafView) (p : ℕ) → first_pair known leaves ≡ Some p → IsPairAt leaves p
  first_pair_at [] p e = absurd (cc)
  first_pair_at (leaf ∷ []) p e = absurd (cc)
  first_pair_at (left ∷ right ∷ leaves) p e =
      elim (cases_Bool (are_due known left right)) [
        | inl due ↦
            let here : Some 0 ≡ Some p = rw due at e in
            let same : 0 ≡ p = cc in
            let both = and_parts (may_join left right) (are_within known left right) due in
            subst (IsPairAt (left ∷ right ∷ leaves)) same (record { may = both.0; within = both.1 })
        | inr other ↦
            let on = later (first_pair known (right ∷ leaves)) p (rw other at e) in
            let rest = first_pair_at (right ∷ leaves) on.0 on.1 in
            subst (IsPairAt (left ∷ right ∷ leaves)) (sym on.2) (record { may = rest.may; within = rest.within })
      ]

  pub large_within : (leaves : List LeafView) (p : ℕ) → first_large known leaves ≡ Some p → p < length leaves
  large_within leaves p is = split_within leaves p (first_large_at leaves p is).may

  pub pair_within : (leaves : List LeafView) (p : ℕ) → first_pair known leaves ≡ Some p → p + 1 < length leaves
  pair_within leaves p is = merge_within leaves p (first_pair_at leaves p is).may

  -- the first large one of the leaves from a place on is the first of all, if none stands before them
  pub large_here : (leaves : List LeafView) (p : ℕ) → p < length leaves → is_due known (get_or leaves p first) ≡ true
      → FromPlace (first_large known) leaves p
      → first_large known leaves ≡ Some p
  large_here leaves p lt due so_far =
      let here : first_large known (drop p leaves) ≡ Some 0 =
      ap (first_large known) (drop-cons leaves p first lt) ∙ rw due refl in
      so_far ∙ ap (option_map (λ q. p + q)) here ∙ ap (λ (n : ℕ). Some n) (omega arith)

  pub large_later : (leaves : List LeafView) (p : ℕ) → p < length leaves → is_due known (get_or leaves p first) ≡ false
      → FromPlace (first_large known) leaves p
      → FromPlace (first_large known) leaves (suc p)
  large_later leaves p lt other so_far =
      let on : first_large known (drop p leaves) ≡ option_map (λ q. q + 1) (first_large known (drop (suc p) leaves)) =
      ap (first_large known) (drop-cons leaves p first lt) ∙ rw other refl in
      so_far ∙ ap (option_map (λ q. p + q)) on ∙ moved p (first_large known (drop (suc p) leaves))

  -- the same of the first two that may be joined
  from_two : (leaves : List LeafView) (p : ℕ) → suc p < length leaves
      → first_pair known (drop p leaves)
      ≡ first_pair known (get_or leaves p first ∷ get_or leaves (suc p) first ∷ drop (suc (suc p)) leaves)
  from_two leaves p lt =
      ap (first_pair known) (drop-cons leaves p first (omega (arith, lt))
      ∙ ap (λ (rest : List LeafView). get_or leaves p first ∷ rest) (drop-cons leaves (suc p) first lt))

  pub pair_here : (leaves : List LeafView) (p : ℕ) → suc p < length leaves
      → are_due known (get_or leaves p first) (get_or leaves (suc p) first) ≡ true
      → FromPlace (first_pair known) leaves p
      → first_pair known leaves ≡ Some p
  pair_here leaves p lt due so_far =
      let here : first_pair known (drop p leaves) ≡ Some 0 = from_two leaves p lt ∙ rw due refl in
      so_far ∙ ap (option_map (λ q. p + q)) here ∙ ap (λ (n : ℕ). Some n) (omega arith)

  pub pair_later : (leaves : List LeafView) (p : ℕ) → suc p < length leaves
      → are_due known (get_or leaves p first) (get_or leaves (suc p) first) ≡ false
      → FromPlace (first_pair known) leaves p
      → FromPlace (first_pair known) leaves (suc p)
  pair_later leaves p lt other so_far =
      let on : first_pair known (drop p leaves) ≡ option_map (λ q. q + 1) (first_pair known (drop (suc p) leaves)) =
      from_two leaves p lt
      ∙ rw other (ap (λ (rest : List LeafView). option_map (λ q. q + 1) (first_pair known rest))
      (sym (drop-cons leaves (suc p) first lt))) in
      so_far ∙ ap (option_map (λ q. p + q)) on ∙ moved p (first_pair known (drop (suc p) leaves))

  -- and one that has passed the last
  pub large_nowhere : (leaves : List LeafView) (p : ℕ) → length leaves ≤ p
      → FromPlace (first_large known) leaves p
      → None ≡ first_large known leaves
  large_nowhere leaves p le so_far =
      sym (so_far ∙ ap (λ (xs : List LeafView). option_map (λ q. p + q) (first_large known xs)) (drop_all p leaves le))

  pub pair_nowhere : (leaves : List LeafView) (p : ℕ) → length leaves ≤ suc p
      → FromPlace (first_pair known) leaves p
      → None ≡ first_pair known leaves
  pair_nowhere leaves p le so_far = sym (so_far ∙ ap (option_map (λ q. p + q)) (alone leaves p le))
    where
      alone : (leaves : List LeafView) (p : ℕ) → length leaves ≤ suc p → first_pair known (drop p leaves) ≡ None
      alone [] zero le = refl
      alone [] (suc p) le = refl
      alone (leaf ∷ []) zero le = refl
      alone (left ∷ right ∷ leaves) zero le = absurd (omega (arith, le))
      alone (leaf ∷ leaves) (suc p) le = alone leaves p (omega (arith, le))
