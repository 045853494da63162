-- A search for the least.
use Rattle.std.proofs.Common.{◌≡◌, ◌⊎◌, ℕ, Bool, true, cond, List, [], ◌∷◌, Option, Some, None, inl, inr, arith}
use Rattle.tc_locks.specs.Least.{lesser, least_of, Passes, IsLeast}

pub same_least : (P Q : ℕ → Type 0) (least : Option ℕ) → ((u : ℕ) → P u → Q u) → ((u : ℕ) → Q u → P u) → IsLeast P least
    → IsLeast Q least
same_least h h2 least to from h3 = grind arith

one_more : (P : ℕ → Type 0) (least : Option ℕ) (n : ℕ) → IsLeast P least
    → IsLeast (λ u. P u ⊎ (n ≡ u)) (Some (lesser least n))
one_more h least n h2 = grind arith

one_tested : (b : Bool) (P : ℕ → Type 0) (least : Option ℕ) (n : ℕ) → IsLeast P least
    → IsLeast (λ u. P u ⊎ ((b ≡ true) × (n ≡ u))) (cond b (Some (lesser least n)) least)
one_tested b h least n h2 = grind arith

least_after : {X : Type 0} (holder : X → ℕ) (test : X → Bool) (P : ℕ → Type 0) (least : Option ℕ) (xs : List X)
    → IsLeast P least
    → IsLeast (λ u. P u ⊎ Passes holder test xs u) (least_of holder test least xs)
least_after holder test P least [] h = grind (arith, same_least)
least_after holder test P least (x ∷ xs) h =
    let Q : ℕ → Type 0 = λ u. P u ⊎ ((test x ≡ true) × (holder x ≡ u)) in
    let new : Option ℕ = cond (test x) (Some (lesser least (holder x))) least in
    same_least (λ u. Q u ⊎ Passes holder test xs u) _ (least_of holder test new xs)
    (λ u. λ p. elim p [ inl q ↦ elim q [ inl p ↦ inl p | inr here ↦ inr (inl here) ] | inr later ↦ inr (inr later) ])
    (λ u. λ p. elim p [
      | inl p ↦ inl (inl p)
      | inr more ↦
          elim more [ inl here ↦ inl (inr here) | inr later ↦ inr later ]
    ])
    (least_after holder test Q new xs (one_tested (test x) P least (holder x) h))

-- a search from nothing finds the least of which the fact holds, where it holds of those that pass
pub least_found : {X : Type 0} (holder : X → ℕ) (test : X → Bool) (P : ℕ → Type 0) (xs : List X)
    → ((u : ℕ) → Passes holder test xs u → P u) → ((u : ℕ) → P u → Passes holder test xs u)
    → IsLeast P (least_of holder test None xs)
least_found holder test P xs to from =
    same_least (λ u. ⊥ ⊎ Passes holder test xs u) P (least_of holder test None xs)
    (λ u. λ p. elim p [ inl never ↦ absurd never | inr passes ↦ to u passes ]) (λ u p. inr (from u p))
    (least_after holder test (λ u. ⊥) None xs (λ u never. never))

-- the same of two searches, the second from what the first found
pub least_of_two : {X : Type 0} (holder : X → ℕ) (test : X → Bool) (P : ℕ → Type 0) (xs ys : List X)
    → ((u : ℕ) → Passes holder test xs u → P u) → ((u : ℕ) → Passes holder test ys u → P u)
    → ((u : ℕ) → P u → Passes holder test xs u ⊎ Passes holder test ys u)
    → IsLeast P (least_of holder test (least_of holder test None xs) ys)
least_of_two holder test P xs ys first second from =
    same_least (λ u. Passes holder test xs u ⊎ Passes holder test ys u) P _
    (λ u. λ p. elim p [ inl passes ↦ first u passes | inr passes ↦ second u passes ]) from
    (least_after holder test (Passes holder test xs) (least_of holder test None xs) ys
    (least_found holder test (Passes holder test xs) xs (λ u p. p) (λ u p. p)))
