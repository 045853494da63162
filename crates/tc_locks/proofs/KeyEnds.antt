-- The upper end of one key.
use Rattle.std.proofs.Common.{◌≡◌, ℕ, zero, suc, [], ◌∷◌, ◌++◌, refl, ap, arith}
use Rattle.std.specs.Ordering.{is_lt, is_le, nat_cmp, ordering_then}
use Rattle.std.specs.declared.cmp.Ordering.{Ordering}
use Rattle.std.specs.declared.cmp.Ordering.TheVariants.{Greater}
use Rattle.record_key.specs.Table.{Bytes}
use Rattle.record_key.specs.Laws.{key_cmp}
use Rattle.record_key.specs.Order.{HasKeys, one_key}
use Rattle.record_key.proofs.KeyOrder.{key_cmp-beginning}

past_zero : (x : ℕ) (xs : Bytes) → is_lt (ordering_then (nat_cmp x 0) (key_cmp xs [])) ≡ is_le Greater
past_zero zero [] = refl
past_zero zero (y ∷ ys) = refl
past_zero (suc x) xs = grind arith

same_first : (o : Ordering) (p q : Ordering) → is_lt p ≡ is_le q → is_lt (ordering_then o p) ≡ is_le (ordering_then o q)
same_first o p q h = grind arith

-- what is below the next text is at most the key
pub below_next : (a k : Bytes) → is_lt (key_cmp a (k ++ 0 ∷ [])) ≡ is_le (key_cmp a k)
below_next [] [] = refl
below_next [] (y ∷ ys) = refl
below_next (x ∷ xs) [] = past_zero x xs
below_next (x ∷ xs) (y ∷ ys) = same_first (nat_cmp x y) _ _ (below_next xs ys)

-- one key is a range
pub key_range : (k : Bytes) → HasKeys (one_key k)
key_range k = ap is_lt (key_cmp-beginning k (0 ∷ []) (λ e. cc))
