-- Values that are numbers: those of exactly 8 bytes, the highest byte first.
use Rattle.std.specs.Prelude.{ℕ, ◌+◌, ◌-◌, ◌%◌, ◌^◌, ◌==◌, ◌&&◌, Bool, List, Option, Some, None, length, nat_lt, if◌then◌else◌}
use Rattle.std.specs.List.{list_all}
use Rattle.byteorder.specs.Endian.{big_bytes, big_number}

-- the 8 bytes of a number, and the number that 8 bytes spell
unfoldable pub amount_bytes : ℕ → List ℕ
amount_bytes n = big_bytes 8 n

unfoldable pub amount_in : List ℕ → ℕ
amount_in bytes = big_number 8 bytes

-- eight of them, each a byte
abbrev pub is_number : List ℕ → Bool
is_number v = length v == 8 && list_all (λ b. nat_lt b 256) v

-- the number with an amount more, which runs round at 2 ^ 64; none where the value is no number
unfoldable pub summed : List ℕ → ℕ → Option (List ℕ)
summed v x = if is_number v then Some (amount_bytes ((amount_in v + x) % 2 ^ 64)) else None

-- the amount that takes an amount back
unfoldable pub negated : ℕ → ℕ
negated x = (2 ^ 64 - x % 2 ^ 64) % 2 ^ 64
