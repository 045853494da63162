-- Things that are changed one after another, and so leaves that are raised, where they are held in things of any kind.
use Rattle.std.proofs.Common.{◌≡◌, ℕ, zero, suc, ◌<◌, List, [], ◌∷◌, length, get_or, set, map, refl, sym, ap, ◌∙◌, arith}
use Rattle.std.proofs.lemmas.List.{map-set, get_or-map, length-map}
use Rattle.dc_leaf.specs.Leaf.{LeafView, raised_to}

-- so many from the first on are changed, and the others are as they were
abbrev pub each_below : {X : Type 0} → (X → X) → ℕ → List X → List X
each_below f zero xs = xs
each_below f (suc i) [] = []
each_below f (suc i) (x ∷ xs) = f x ∷ each_below f i xs

module _ {X : Type 0} (f : X → X) where
  pub each_all : (xs : List X) → each_below f (length xs) xs ≡ map f xs
  each_all [] = refl
  each_all (x ∷ xs) = ap (λ (rest : List X). f x ∷ rest) (each_all xs)

  pub each_length : (i : ℕ) (xs : List X) → length (each_below f i xs) ≡ length xs
  each_length zero xs = refl
  each_length (suc i) [] = refl
  each_length (suc i) (x ∷ xs) = ap suc (each_length i xs)

  pub each_next : (i : ℕ) (xs : List X) (d : X) → i < length xs
      → set (each_below f i xs) i (f (get_or (each_below f i xs) i d)) ≡ each_below f (suc i) xs
  each_next i [] d within = absurd (omega (arith, within))
  each_next zero (x ∷ xs) d within = refl
  each_next (suc i) (x ∷ xs) d within = ap (λ (rest : List X). f x ∷ rest) (each_next i xs d (omega (arith, within)))

-- leaves of which so many are raised
abbrev pub raised_below : ℕ → ℕ → List LeafView → List LeafView
raised_below l i leaves = each_below (λ leaf. raised_to leaf l) i leaves

pub raised_all : (l : ℕ) (leaves : List LeafView)
    → raised_below l (length leaves) leaves ≡ map (λ leaf. raised_to leaf l) leaves
raised_all l leaves = each_all (λ (leaf : LeafView). raised_to leaf l) leaves

module _ {X : Type 0} (leaf_of : X → LeafView) where
  pub raised_next : (xs : List X) (leaves : List LeafView) (l i : ℕ) (x d : X)
      → map leaf_of xs ≡ raised_below l i leaves → i < length leaves
      → leaf_of x ≡ raised_to (leaf_of (get_or xs i d)) l → map leaf_of (set xs i x) ≡ raised_below l (suc i) leaves
  raised_next xs leaves l i x d are within is =
      map-set leaf_of xs i x
      ∙ ap (λ (leaf : LeafView). set (map leaf_of xs) i leaf)
      (is ∙ ap (λ (leaf : LeafView). raised_to leaf l)
      (sym (get_or-map leaf_of xs i d (leaf_of d)
      (omega (
        arith,
        within,
        ap length are,
        length-map xs leaf_of,
        each_length (λ (leaf : LeafView). raised_to leaf l) i leaves,
      )))))
      ∙ ap (λ (all : List LeafView). set all i (raised_to (get_or all i (leaf_of d)) l)) are
      ∙ each_next (λ (leaf : LeafView). raised_to leaf l) i leaves (leaf_of d) within
