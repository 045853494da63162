-- Writing at the end of a vector that has room for what is written.
use Rattle.std.specs.Prelude.{◌≡◌, ℕ, ◌+◌, ◌≤◌, List, ◌++◌, length, vec_len, vec_capacity}
use Rattle.std.specs.Global.{Vec}

abbrev pub HasRoom : Vec ℕ → List ℕ → Type 0
HasRoom out bytes = vec_len out + length bytes ≤ vec_capacity out

-- the bytes stand at the end, and no room but theirs is gone
pub record Puts (old new : Vec ℕ) (bytes : List ℕ) : Type 0 where
  pub items : new.items ≡ old.items ++ bytes
  pub len : vec_len new ≡ vec_len old + length bytes
  pub capacity : vec_capacity old ≤ vec_capacity new
