-- The least transaction among those that pass a test.
use Rattle.std.specs.Prelude.{◌≡◌, ◌⊎◌, ℕ, ◌≤◌, Bool, true, List, [], ◌∷◌, Option, Some, None, MatchOption, nat_lt, if◌then◌else◌}

abbrev pub lesser : Option ℕ → ℕ → ℕ
lesser None n = n
lesser (Some m) n = if nat_lt m n then m else n

-- the least so far, and after each of the list's
abbrev pub least_of : {X : Type 0} → (X → ℕ) → (X → Bool) → Option ℕ → List X → Option ℕ
least_of holder test least [] = least
least_of holder test least (x ∷ xs) = least_of holder test (if test x then Some (lesser least (holder x)) else least) xs

-- the transaction has one in the list that passes
abbrev pub Passes : {X : Type 0} → (X → ℕ) → (X → Bool) → List X → ℕ → Type 0
Passes holder test [] u = ⊥
Passes holder test (x ∷ xs) u = ((test x ≡ true) × (holder x ≡ u)) ⊎ Passes holder test xs u

-- the least of which the fact holds, none where it holds of none
abbrev pub IsLeast : (ℕ → Type 0) → Option ℕ → Type 0
IsLeast P least = MatchOption least ((u : ℕ) → P u → ⊥) (λ n. P n × ((u : ℕ) → P u → n ≤ u))
