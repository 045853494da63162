-- Marks at each eighth of many places, from which the others are found. The first of the places needs no mark, as it is
-- the same always: the latest is marked in its stead.
use Rattle.std.specs.Prelude.{◌≡◌, ℕ, ◌+◌, ◌-◌, ◌*◌, ◌%◌, ◌<◌, ◌≤◌, ◌==◌, if◌then◌else◌, List, [], ◌∷◌, ◌++◌, length, get_or, slice_set}

-- the marks, once a place comes after so many
abbrev pub marked : List ℕ → ℕ → ℕ → List ℕ
marked marks count place = slice_set (if count % 8 == 0 then marks ++ place ∷ [] else marks) 0 place

-- the marks are the latest of these places and each eighth after the first, of so many
pub record AreMarks (at : ℕ → ℕ) (marks : List ℕ) (count : ℕ) : Type 0 where
  pub enough : count ≤ 8 * length marks
  pub no_more : 8 * length marks < count + 8
  pub placed : (i : ℕ) → 0 < i → i < length marks → get_or marks i 0 ≡ at (8 * i)
  pub latest : 0 < count → get_or marks 0 0 ≡ at (count - 1)
