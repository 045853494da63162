-- Leaves by number: empty places, and the leaves that stand in them.
use Rattle.std.proofs.Common.{◌≡◌, ℕ, zero, suc, List, [], ◌∷◌, ◌++◌, None, refl}
use Rattle.dc_store.specs.Shelf.{Slot, leaf_on}

-- one more place that is empty
pub none_more : (slots : List Slot) → ((id : ℕ) → leaf_on slots id ≡ None) → (id : ℕ)
    → leaf_on (slots ++ None ∷ []) id ≡ None
none_more [] none zero = refl
none_more [] none (suc id) = refl
none_more (slot ∷ slots) none zero = none 0
none_more (slot ∷ slots) none (suc id) = none_more slots (λ at. none (suc at)) id
