-- Where frames begin that stand one after another from the front of bytes, told by marks at the latest and at each
-- eighth of them.
use Rattle.std.specs.Prelude.{ℕ, zero, suc, ◌+◌, ◌≤◌, Bool, List, [], ◌∷◌, ◌++◌, length, drop}
use Rattle.codec.specs.Fields.{first_number}
use Rattle.codec.specs.Marks.{AreMarks}

-- where the frame after the one at a place begins
unfoldable pub next_at : List ℕ → ℕ → ℕ
next_at bytes place = place + (8 + first_number (drop place bytes))

-- where a frame begins that has so many before it
unfoldable pub place_at : List ℕ → ℕ → ℕ
place_at bytes zero = 0
place_at bytes (suc n) = next_at bytes (place_at bytes n)

-- where each of the first begins, so many
unfoldable pub places_of : List ℕ → ℕ → List ℕ
places_of bytes zero = []
places_of bytes (suc n) = places_of bytes n ++ place_at bytes n ∷ []

-- what is seen of an index: the places that it marks, how many frames there are, and whether one more has room
pub record FrameIndexView : Type 0 where
  pub marks : List ℕ
  pub count : ℕ
  pub has_room : Bool

-- the marks are the places of the latest and of each eighth of so many frames, and all of these frames are whole
pub record Indexes (bytes marks : List ℕ) (count : ℕ) : Type 0 where
  pub indexed : AreMarks (place_at bytes) marks count
  pub whole : place_at bytes count ≤ length bytes
