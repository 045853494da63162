-- The lifetimes that a type of lent parts names, each once for every part, are among its own.
use mathlib.Core.List.{List, [], ◌++◌, Mem, Memᴰ, Mem-prop, not-mem-nil}
use mathlib.Core.List.Memᴰ
use mathlib.Core.Logic.{◌⊎◌, inl, inr, ∥∥₁_elim}
use Rattle.std.proofs.Common.{ℕ}

abbrev pub AreAmong : List ℕ → List ℕ → Type 0
AreAmong ys xs = (a : ℕ) → Mem a ys → Mem a xs

pub none : (xs : List ℕ) → AreAmong [] xs
none xs a m = absurd (not-mem-nil m)

pub themselves : (xs : List ℕ) → AreAmong xs xs
themselves xs a m = m

pub both : (ys zs xs : List ℕ) → AreAmong ys xs → AreAmong zs xs → AreAmong (ys ++ zs) xs
both ys zs xs left right a m = ∥∥₁_elim m Mem-prop (λ d. pick (Memᴰ.append_cases ys d))
  where
    pick : Memᴰ a ys ⊎ Memᴰ a zs → Mem a xs
    pick (inl d) = left a ∣ d ∣₁
    pick (inr d) = right a ∣ d ∣₁

pub no_more : (ys xs : List ℕ) → AreAmong ys xs → AreAmong (ys ++ []) xs
no_more ys xs among = both ys [] xs among (none xs)

-- of a part without any others, and of three more that have none
pub with_three : (xs : List ℕ) → AreAmong (xs ++ [] ++ [] ++ []) xs
with_three xs =
    no_more (xs ++ [] ++ []) xs (no_more (xs ++ []) xs (no_more xs xs (themselves xs)))
