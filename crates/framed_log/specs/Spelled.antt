-- A log as bytes: the frames of its records one after another.
use Rattle.std.specs.Prelude.{ℕ, List, [], ◌∷◌, ◌++◌, drop, length, map, reverse}
use Rattle.std.specs.List.{AllByRecursion}
use Rattle.codec.specs.FrameIndex.{places_of}
use Rattle.codec.specs.Frames.{frame}
use Rattle.codec.specs.Reading.{Reader, frame_at, within}
use Rattle.codec.specs.declared.taken.Taken.{Taken}
use Rattle.codec.specs.declared.taken.Taken.TheVariants as took

-- how records stand in frames: their spelling, which have one that a frame has room for, how many bytes a body has at
-- most, and how it is read; and a record to name where none is read
pub record Framing (X : Type 0) : Type 1 where
  pub spell : X → List ℕ
  pub Fits : X → Type 0
  pub limit : ℕ
  pub read : Reader X
  pub other : X

-- each record fits a frame
abbrev pub AreRecords : {X : Type 0} → Framing X → List X → Type 0
AreRecords f log = AllByRecursion f.Fits log

-- the frames of the records, the oldest first
unfoldable pub spelled : {X : Type 0} → Framing X → List X → List ℕ
spelled f [] = []
spelled f (r ∷ log) = spelled f log ++ frame (f.spell r)

-- where the frame of each record begins
unfoldable pub places : {X : Type 0} → Framing X → List X → List ℕ
places f [] = []
places f (r ∷ log) = places f log ++ length (spelled f log) ∷ []

-- what was taken, or this record
abbrev pub taken_or : {X : Type 0} → X → Taken X → X
taken_or other (took.Record r next) = r
taken_or other took.Short = other
taken_or other (took.Bad place) = other

-- the record whose frame begins at a place
unfoldable pub read_at : {X : Type 0} → Framing X → List ℕ → ℕ → X
read_at f bytes place = taken_or f.other (within place f.read (frame_at f.limit place (drop place bytes)))

-- the records whose frames begin at these places, the last one first
unfoldable pub records_at : {X : Type 0} → Framing X → List ℕ → List ℕ → List X
records_at f bytes begins = reverse (map (read_at f bytes) begins)

-- the records of the first frames of the bytes, so many, the last one first
abbrev pub records_of : {X : Type 0} → Framing X → List ℕ → ℕ → List X
records_of f bytes count = records_at f bytes (places_of bytes count)
