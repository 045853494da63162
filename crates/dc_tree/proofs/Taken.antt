-- A list of which one is taken out.
use Rattle.std.proofs.Common.{◌≡◌, ℕ, zero, suc, ◌<◌, List, [], ◌∷◌, length, get_or, take, drop, refl, ap, arith}
use Rattle.std.specs.List.{remove}

module _ {X : Type 0} where
  pub take_removed : (xs : List X) (i : ℕ) → take i (remove xs i) ≡ take i xs
  take_removed [] zero = refl
  take_removed [] (suc i) = refl
  take_removed (x ∷ xs) zero = refl
  take_removed (x ∷ xs) (suc i) = ap (λ (ys : List X). x ∷ ys) (take_removed xs i)

  pub drop_removed : (xs : List X) (i : ℕ) (d : X) → i < length xs → drop i xs ≡ get_or xs i d ∷ drop i (remove xs i)
  drop_removed [] i d within = absurd (omega (arith, within))
  drop_removed (x ∷ xs) zero d within = refl
  drop_removed (x ∷ xs) (suc i) d within = drop_removed xs i d (omega (arith, within))

  pub drop_past : (xs : List X) (i : ℕ) → i < length xs → drop i (remove xs i) ≡ drop (suc i) xs
  drop_past [] i within = absurd (omega (arith, within))
  drop_past (x ∷ xs) zero within = refl
  drop_past (x ∷ xs) (suc i) within = drop_past xs i (omega (arith, within))

  pub none_left : (xs : List X) (p : ℕ) → length xs ≡ 1 → p < length xs → remove xs p ≡ []
  none_left [] p one within = absurd (omega (arith, within))
  none_left (x ∷ []) zero one within = refl
  none_left (x ∷ []) (suc p) one within = absurd (omega (arith, within))
  none_left (x ∷ y ∷ xs) p one within = absurd (omega (arith, one))
