-- Numbers with amounts more: sums in either order, and an amount taken back.
use Rattle.std.proofs.Common.{◌≡◌, ℕ, zero, suc, ◌^◌, ◌<◌, true, List, [], ◌∷◌, ◌++◌, length, get_or, slice_index, refl, sym, ap, ◌∙◌, arith, eqb-true}
use Rattle.std.specs.Prelude.{nat_lt}
use Rattle.std.specs.List.{list_all}
use Rattle.std.specs.Int.{byte_at, bytes_high_first}
use Rattle.std.proofs.Math.Nat.{mod-lt, mod-eq_of_lt}
use Rattle.std.proofs.lemmas.Bool.{and_parts, and_from, lt-ltb, ltb-true}
use Rattle.std.proofs.lemmas.List.{append-nil}
use Rattle.std.proofs.lemmas.Nat.{be_bytes_8}
use Rattle.byteorder.specs.Endian.{big_from}
use Rattle.byteorder.specs.Numbers.{big_from-bytes, big_from-lt, length-bytes_high_first}
use Rattle.record_key.specs.Amounts.{amount_bytes, amount_in, is_number}

-- a number's bytes spell it, whatever follows
pub amount_then : (n : ℕ) (rest : List ℕ) → n < 2 ^ 64 → amount_in (amount_bytes n ++ rest) ≡ n
unfolding amount_bytes amount_in
amount_then n rest fits = big_from-bytes 8 n rest ∙ mod-eq_of_lt fits

pub amount_again : (n : ℕ) → n < 2 ^ 64 → amount_in (amount_bytes n) ≡ n
amount_again n fits = ap amount_in (sym (append-nil (amount_bytes n))) ∙ amount_then n [] fits

-- they are bytes, eight of them
byte_small : (i n : ℕ) → byte_at i n < 256
byte_small zero n = mod-lt n (omega arith)
byte_small (suc i) n = mod-lt _ (omega arith)

all_bytes : (k n : ℕ) → list_all (λ b. nat_lt b 256) (bytes_high_first k n) ≡ true
all_bytes zero n = refl
all_bytes (suc k) n = and_from _ _ (lt-ltb (byte_at k n) 256 (byte_small k n)) (all_bytes k n)

pub amount_length : (n : ℕ) → length (amount_bytes n) ≡ 8
unfolding amount_bytes
amount_length n = length-bytes_high_first 8 n

pub is_number-amount : (n : ℕ) → is_number (amount_bytes n) ≡ true
unfolding amount_bytes
is_number-amount n = and_from _ _ refl (all_bytes 8 n)

-- what stands in a list of bytes is a byte
pub bytes_small : (v : List ℕ) → list_all (λ b. nat_lt b 256) v ≡ true → (i : ℕ) → get_or v i 0 < 256
bytes_small [] h i = omega arith
bytes_small (b ∷ v) h zero = ltb-true b 256 (and_parts _ _ h).0
bytes_small (b ∷ v) h (suc i) = bytes_small v (and_parts _ _ h).1 i

pub small_bytes : (v : List ℕ) → ((i : ℕ) → slice_index v i < 256) → list_all (λ b. nat_lt b 256) v ≡ true
small_bytes [] h = refl
small_bytes (b ∷ v) h = and_from _ _ (lt-ltb b 256 (h 0)) (small_bytes v (λ i. h (suc i)))

-- a value of eight bytes is what its number spells
module _ (v : List ℕ) (number : is_number v ≡ true) where
  eight : length v ≡ 8
  eight = eqb-true (length v) 8 (and_parts _ _ number).0

  small : (i : ℕ) → get_or v i 0 < 256
  small = bytes_small v (and_parts _ _ number).1

  pub amount_below : amount_in v < 2 ^ 64
  unfolding amount_in
  amount_below = big_from-lt 0 8 v small

  pub amount_spelled : amount_bytes (amount_in v) ≡ v
  unfolding amount_bytes amount_in
  amount_spelled = be_bytes_8 v (big_from 0 8 v) eight small (omega arith)
