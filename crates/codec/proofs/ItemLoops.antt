-- Items one after the other: what is kept as a loop adds up their lengths, and as it writes them.
use Rattle.std.proofs.Common.{◌≡◌, ℕ, ◌+◌, ◌≤◌, List, ◌++◌, length, drop, vec_len, vec_capacity}
use Rattle.std.specs.Global.{Vec}
use Rattle.std.specs.List.{flat_map, AllByRecursion}
use Rattle.codec.specs.Writing.{HasRoom}

pub record LenSoFar (X : Type 0) (spell : X → List ℕ) (Fits : X → Type 0) (xs : List X) (i len : ℕ) : Type 0 where
  pub sum : len + length (flat_map spell (drop i xs)) ≡ length (flat_map spell xs)
  pub each : AllByRecursion Fits (drop i xs) → AllByRecursion Fits xs

pub record PutsSoFar (X : Type 0) (spell : X → List ℕ) (first now : Vec ℕ) (xs : List X) (i : ℕ) : Type 0 where
  pub room : HasRoom now (flat_map spell (drop i xs))
  pub items : now.items ++ flat_map spell (drop i xs) ≡ first.items ++ flat_map spell xs
  pub len : vec_len now + length (flat_map spell (drop i xs)) ≡ vec_len first + length (flat_map spell xs)
  pub capacity : vec_capacity first ≤ vec_capacity now

-- the same of bytes
pub record PutsFew (first now : Vec ℕ) (bytes : List ℕ) (i : ℕ) : Type 0 where
  pub room : HasRoom now (drop i bytes)
  pub items : now.items ++ drop i bytes ≡ first.items ++ bytes
  pub len : vec_len now + length (drop i bytes) ≡ vec_len first + length bytes
  pub capacity : vec_capacity first ≤ vec_capacity now
