-- Where a value stands among items in order, or where it would go. How the value compares with each item is given.
use Rattle.std.specs.Prelude.{◌≡◌, ℕ, zero, suc, List, [], ◌∷◌, Result, MatchResult}
use Rattle.std.specs.declared.cmp.Ordering.{Ordering}
use Rattle.std.specs.declared.cmp.Ordering.TheVariants.{Less, Equal, Greater}

-- the item at this place ties with the value, and those before it are lower
abbrev pub StandsAt : {X : Type 0} → (X → Ordering) → List X → ℕ → Type 0
StandsAt order [] p = ⊥
StandsAt order (x ∷ xs) zero = order x ≡ Equal
StandsAt order (x ∷ xs) (suc p) = (order x ≡ Greater) × StandsAt order xs p

-- no item ties with the value, and it belongs at this place
abbrev pub BelongsAt : {X : Type 0} → (X → Ordering) → List X → ℕ → Type 0
BelongsAt order [] p = p ≡ 0
BelongsAt order (x ∷ xs) zero = order x ≡ Less
BelongsAt order (x ∷ xs) (suc p) = (order x ≡ Greater) × BelongsAt order xs p

abbrev pub IsPlace : {X : Type 0} → (X → Ordering) → List X → Result ℕ ℕ → Type 0
IsPlace order xs place = MatchResult place (StandsAt order xs) (BelongsAt order xs)
