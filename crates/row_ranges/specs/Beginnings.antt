-- The keys that begin with a text, as a range.
use Rattle.std.specs.Prelude.{◌≡◌, ℕ, ◌<◌, ◌+◌, nat_lt, List, [], ◌∷◌, ◌++◌, Option, Some, None, IsTrue, if◌then◌else◌}
use Rattle.std.specs.List.{AllByRecursion}
use Rattle.record_key.specs.Table.{Bytes}
use Rattle.record_key.specs.Order.{Range, has_key}

-- a byte before the end of what follows it; where all of that is 255, which nothing is above, the byte after it
abbrev pub end_behind : ℕ → Option Bytes → Option Bytes
end_behind b (Some end) = Some (b ∷ end)
end_behind b None = if nat_lt b 255 then Some ((b + 1) ∷ []) else None

-- the end of the keys that begin with a text, if there is any
abbrev pub beginning_end : Bytes → Option Bytes
beginning_end [] = None
beginning_end (b ∷ bs) = end_behind b (beginning_end bs)

-- the keys from a text on, below that end
abbrev pub beginnings : Bytes → Range
beginnings text = record { lo = text; hi = beginning_end text }

-- it has each key that begins with the text, and no other
pub record IsBeginningsRange : Type 0 where
  pub all : (text rest : Bytes) → IsTrue (has_key (beginnings text) (text ++ rest))
  pub only : (text key : Bytes) → AllByRecursion (λ b. b < 256) key → IsTrue (has_key (beginnings text) key)
      → (rest : Bytes) × (key ≡ text ++ rest)
