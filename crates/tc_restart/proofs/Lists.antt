-- Lists of numbers of a kind: what is listed once, and what one number more or less does.
use Rattle.std.proofs.Common.{◌≡◌, ◌≢◌, ℕ, ◌+◌, ◌<◌, ◌⊎◌, Bool, cond, List, [], ◌∷◌, ◌++◌, map, refl, sym, ap, ◌∙◌, subst, arith, inl, inr, eq-eqb, ne_eqb}
use Rattle.std.specs.Prelude.{◌==◌}
use Rattle.std.specs.List.{All, Contains}
use Rattle.std.specs.List.Sorted.{IsPermutation}
use Rattle.std.proofs.Math.ListN.{get_or-map}
use Rattle.std.proofs.lemmas.Bool.{cases_eq}
use Rattle.std.proofs.lemmas.List.{length-map}
use Rattle.std.proofs.lemmas.List.Elements.{All-nil, All-cons, All-head, All-tail, All-map, All-weaker, All-contains, All-contains_itself, Contains-push, Contains-append_left, Contains-append_right}
use Rattle.std.proofs.lemmas.List.Sorted.{All-permutation, sum_by-IsPermutation, IsPermutation-sym, IsPermutation-to_front}
use Rattle.std.proofs.lemmas.List.Sums.{sum_by-cons}
use Rattle.tc_restart.specs.Lists.{times, Lists}

-- what holds of each listed one holds of all
pub all_from : {X : Type 0} (P : X → Type 0) (xs : List X) → ((x : X) → Contains xs x → P x) → All P xs
all_from P xs each = All-weaker (Contains xs) P each xs (All-contains_itself xs)

-- what is listed in a map is of a listed one, and back
pub from_map : {X Y : Type 0} (f : X → Y) (xs : List X) (y : Y) → Contains (map f xs) y
    → (x : X) × Contains xs x × (f x ≡ y)
from_map {X} {Y} f xs y c =
    let Of : Y → Type 0 = λ z. (x : X) × Contains xs x × (f x ≡ z) in
    All-contains Of (map f xs) y (All-map Of f xs (all_from (λ x. Of (f x)) xs (λ x h. (x, h, refl)))) c

pub to_map : {X Y : Type 0} (f : X → Y) (xs : List X) (x : X) → Contains xs x → Contains (map f xs) (f x)
to_map f xs x c = (c.0, omega (arith, c.1, length-map xs f), get_or-map f xs c.0 x ∙ ap f c.2)

-- the first is listed once more
pub times_first : (n m : ℕ) (list : List ℕ) → n ≡ m → times n (m ∷ list) ≡ times n list + 1
times_first n m list e =
    sum_by-cons (λ k. cond (n == k) 1 0) m list ∙ ap (λ (b : Bool). cond b 1 0 + times n list) (eq-eqb n m e)
    ∙ omega arith

pub times_other : (n m : ℕ) (list : List ℕ) → n ≢ m → times n (m ∷ list) ≡ times n list
times_other n m list e =
    sum_by-cons (λ k. cond (n == k) 1 0) m list ∙ ap (λ (b : Bool). cond b 1 0 + times n list) (ne_eqb n m e)
    ∙ omega arith

pub times_reordered : (n : ℕ) (xs ys : List ℕ) → IsPermutation xs ys → times n ys ≡ times n xs
times_reordered n xs ys same = sum_by-IsPermutation (λ k. cond (n == k) 1 0) xs ys same

-- what is listed once is there
pub is_there : (n : ℕ) (list : List ℕ) → 0 < times n list → Contains list n
is_there n [] h = absurd (omega (arith, h))
is_there n (m ∷ list) h =
    elim (cases_eq n m) [
      | inl e ↦ subst (Contains (m ∷ list)) (sym e) (Contains-append_left (m ∷ []) list m (Contains-push [] m))
      | inr e ↦ Contains-append_right (m ∷ []) list n (is_there n list (omega (arith, h, times_other n m list e)))
    ]

-- what isn't listed is none of them, and back
pub none_of : (n : ℕ) (list : List ℕ) → times n list ≡ 0 → All (λ m. n ≢ m) list
none_of n [] h = All-nil (λ m. n ≢ m)
none_of n (m ∷ list) h =
    elim (cases_eq n m) [
      | inl e ↦ absurd (omega (arith, h, times_first n m list e))
      | inr e ↦ All-cons (λ k. n ≢ k) m list e (none_of n list (sym (times_other n m list e) ∙ h))
    ]

pub not_listed : (n : ℕ) (list : List ℕ) → All (λ m. n ≢ m) list → times n list ≡ 0
not_listed n [] h = refl
not_listed n (m ∷ list) h =
    times_other n m list (All-head (λ k. n ≢ k) m list h) ∙ not_listed n list (All-tail (λ k. n ≢ k) m list h)

module _ (P Q : ℕ → Type 0) where
  -- the same numbers
  pub lists_same : ((n : ℕ) → P n → Q n) → ((n : ℕ) → Q n → P n) → (list : List ℕ) → Lists P list → Lists Q list
  lists_same there back list h = record { right = All-weaker P Q there list h.right; once = λ n q. h.once n (back n q) }

  -- a number more
  pub lists_more : (x : ℕ) (xs ys : List ℕ) → IsPermutation (x ∷ xs) ys → ((n : ℕ) → P n → Q n)
      → ((n : ℕ) → Q n → (n ≡ x) ⊎ P n)
      → Q x → (P x → ⊥) → Lists P xs → Lists Q ys
  lists_more x xs ys same there back now fresh h = record {
    right = All-permutation Q (x ∷ xs) ys same (All-cons Q x xs now (All-weaker P Q there xs h.right));
    once = λ n q. times_reordered n (x ∷ xs) ys same ∙ elim (cases_eq n x) [
      | inl e ↦ times_first n x xs e
          ∙ ap (λ (k : ℕ). k + 1)
          (not_listed n xs (All-weaker P (λ m. n ≢ m) (λ m p f. fresh (subst P (sym f ∙ e) p)) xs h.right))
      | inr e ↦ times_other n x xs e ∙ h.once n (elim (back n q) [ inl f ↦ absurd (e f) | inr p ↦ p ])
    ];
  }

  -- a number less
  pub lists_less : (x : ℕ) (xs : List ℕ) → ((n : ℕ) → Q n → P n) → ((n : ℕ) → P n → n ≢ x → Q n) → P x → (Q x → ⊥)
      → Lists P (x ∷ xs) → Lists Q xs
  lists_less x xs back there was gone h =
      let others : All (λ m. x ≢ m) xs = none_of x xs (omega (arith, times_first x x xs refl, h.once x was)) in
      let rest : All P xs = All-tail P x xs h.right in
      record {
        right = λ k d within. there _ (rest k d within) (λ e. others k d within (sym e));
        once = λ n q. sym (times_other n x xs (λ e. gone (subst Q e q))) ∙ h.once n (back n q);
      }

pub lists_reordered : (P : ℕ → Type 0) (xs ys : List ℕ) → IsPermutation xs ys → Lists P xs → Lists P ys
lists_reordered P xs ys same h = record {
  right = All-permutation P xs ys same h.right;
  once = λ n p. times_reordered n xs ys same ∙ h.once n p;
}

-- a number more at the end
pub at_end : (x : ℕ) (xs : List ℕ) → IsPermutation (x ∷ xs) (xs ++ x ∷ [])
at_end x xs = IsPermutation-sym (xs ++ x ∷ []) (x ∷ xs) (IsPermutation-to_front xs x)
