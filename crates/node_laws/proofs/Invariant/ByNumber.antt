-- Messages by their numbers, and what holds of each.
use Rattle.std.proofs.Common.{◌≡◌, ℕ, ◌+◌, zero, suc, List, [], ◌∷◌, ◌++◌, length, Some, slice_get, refl, ap, ◌∙◌, arith}
use Rattle.std.specs.List.{AllByRecursion}
use Rattle.dc_core.proofs.Walks.{all_get}
use Rattle.node_laws.specs.Messages.{message_at}

pub all_push : {A : Type 0} (P : A → Type 0) (xs : List A) (x : A) → AllByRecursion P xs → P x
    → AllByRecursion P (xs ++ x ∷ [])
all_push P [] x all last = (last, tt)
all_push P (y ∷ xs) x all last = (all.0, all_push P xs x all.1 last)

-- it holds of the message of any number
pub all_at : {A : Type 0} (P : A → Type 0) (xs : List A) (i : ℕ) (x : A) → AllByRecursion P xs
    → message_at xs i ≡ Some x → P x
all_at P xs zero x all found = absurd (cc)
all_at P xs (suc n) x all found = all_get P xs n x all found

get_last : {A : Type 0} (xs : List A) (x : A) → slice_get (xs ++ x ∷ []) (length xs) ≡ Some x
get_last [] x = refl
get_last (y ∷ xs) x = get_last xs x

-- the message that was added last has the number of their count
pub last_at : {A : Type 0} (xs : List A) (x : A) → message_at (xs ++ x ∷ []) (length xs + 1) ≡ Some x
last_at xs x = let e : length xs + 1 ≡ suc (length xs) = omega arith in ap (message_at (xs ++ x ∷ [])) e ∙ get_last xs x
