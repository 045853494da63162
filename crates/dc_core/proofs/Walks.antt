-- What a walk over a list has found of each element.
use Rattle.std.proofs.Common.{◌≡◌, ℕ, ◌+◌, ◌≤◌, Some, zero, suc, List, [], ◌∷◌, length, get_or, take, sym, subst}
use Rattle.std.specs.Prelude.{slice_get}
use Rattle.std.specs.List.{AllByRecursion}
use Rattle.std.proofs.lemmas.List.{take_more, take_all}
use Rattle.std.proofs.lemmas.Option.{slice_get_within, get_or_from_slice_get}
use Rattle.record_key.proofs.Lists.{all_appended}

-- at one of them
pub all_get : {X : Type 0} (P : X → Type 0) (xs : List X) (n : ℕ) (x : X) → AllByRecursion P xs
    → slice_get xs n ≡ Some x → P x
all_get P [] n x all found = absurd (cc)
all_get P (y ∷ xs) zero x all found = subst P (same found) all.0
  where
    same : Some y ≡ Some x → y ≡ x
    same e = cc
all_get P (y ∷ xs) (suc n) x all found = all_get P xs n x all.1 found

-- one element more
pub all_more : {X : Type 0} (P : X → Type 0) (xs : List X) (p : ℕ) (x : X) → slice_get xs p ≡ Some x
    → AllByRecursion P (take p xs) → P x → AllByRecursion P (take (p + 1) xs)
all_more P xs p x there all holds =
    subst (AllByRecursion P) (sym (take_more xs p x (slice_get_within xs p x there)))
    (all_appended P (take p xs) (get_or xs p x ∷ []) all
    (subst P (sym (get_or_from_slice_get xs p x x there)) holds, tt))

-- the end
pub all_through : {X : Type 0} (P : X → Type 0) (xs : List X) (p : ℕ) → length xs ≤ p → AllByRecursion P (take p xs)
    → AllByRecursion P xs
all_through P xs p most all = subst (AllByRecursion P) (take_all p xs most) all
