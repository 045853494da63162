-- Messages by their numbers: a list that only grows.
use Rattle.std.specs.Prelude.{ℕ, zero, suc, List, Option, None, slice_get}

-- the message of a number, from 1
abbrev pub message_at : {A : Type 0} → List A → ℕ → Option A
message_at messages zero = None
message_at messages (suc n) = slice_get messages n
