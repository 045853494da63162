-- When a leaf is honest for a log: of what the log does to each of its keys it has captured a beginning, and leaves out
-- only Adds among Adds.
use Rattle.std.specs.Prelude.{◌≡◌, ◌⊎◌, ℕ, ◌+◌, Bool, true, List, [], ◌∷◌, Option, Some, None, length, if◌then◌else◌}
use Rattle.std.specs.List.{AllByRecursion}
use Rattle.record_key.specs.declared.op.Op.{Op}
use Rattle.record_key.specs.Table.{Bytes, AreAdds, value_after}
use Rattle.history.specs.declared.record.Record.{Record}
use Rattle.history.specs.Log.{request_of}
use Rattle.history.specs.Values.{is_on}

-- an operation with its number
pub record Numbered : Type 0 where
  pub number : ℕ
  pub op : Op

abbrev pub numbered_with : Bytes → ℕ → Option Op → List Numbered → List Numbered
numbered_with k n None rest = rest
numbered_with k n (Some o) rest = if is_on k o then record { number = n; op = o } ∷ rest else rest

-- a log's numbers on a key, the newest first
abbrev pub numbered_on : Bytes → List Record → List Numbered
numbered_on k [] = []
numbered_on k (r ∷ log) = numbered_with k (length log + 1) (request_of r) (numbered_on k log)

abbrev pub AreCaptured : (ℕ → Bool) → List Numbered → Type 0
AreCaptured cap done = AllByRecursion (λ d. cap d.number ≡ true) done

-- each is captured, or it and this operation are Adds
abbrev pub AreCapturedBut : Op → (ℕ → Bool) → List Numbered → Type 0
AreCapturedBut o cap done = AllByRecursion (λ d. (cap d.number ≡ true) ⊎ AreAdds o d.op) done

-- where one is left out below a captured one, both are Adds
abbrev pub LeavesOutAdds : (ℕ → Bool) → List Numbered → Type 0
LeavesOutAdds cap [] = Unit {0}
LeavesOutAdds cap (d ∷ done) = (cap d.number ≡ true → AreCapturedBut d.op cap done) × LeavesOutAdds cap done

-- the value, or its absence, that the captured ones give
abbrev pub value_of : (ℕ → Bool) → List Numbered → Option Bytes
value_of cap [] = None
value_of cap (d ∷ done) = if cap d.number then value_after d.op (value_of cap done) else value_of cap done

-- honest at one key, where the leaf has this value
pub record IsHonestAt (log : List Record) (cap : ℕ → Bool) (k : Bytes) (value : Option Bytes) : Type 0 where
  pub left_out : LeavesOutAdds cap (numbered_on k log)
  pub right : value ≡ value_of cap (numbered_on k log)
