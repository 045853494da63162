-- Frames: a length and that many bytes, and what is read of them.
use Rattle.std.specs.Prelude.{◌≡◌, ◌⊎◌, ℕ, ◌+◌, ◌-◌, ◌^◌, ◌<◌, ◌≤◌, List, [], ◌∷◌, ◌++◌, length, take, drop}
use Rattle.codec.specs.Fields.{number, first_number}
use Rattle.codec.specs.declared.taken.Taken.{Taken}
use Rattle.codec.specs.declared.taken.Taken.TheVariants.{Record, Short, Bad}

-- a body behind its length
abbrev pub frame : List ℕ → List ℕ
frame body = number (length body) ++ body

-- the limit of a body that has none but that its length is a number of eight bytes
abbrev pub any_length : ℕ
any_length = 2 ^ 64 - 1

-- the bytes end within a frame whose length, if it is there, is from 1 to the limit
abbrev pub IsCut : ℕ → List ℕ → Type 0
IsCut limit bytes =
    (length bytes < 8)
    ⊎ ((0 < first_number bytes) × (first_number bytes ≤ limit) × (8 ≤ length bytes)
    × (length bytes < 8 + first_number bytes))

-- the bytes begin with a whole frame, whose length is from 1 to the limit
pub record IsWholeFrame (limit : ℕ) (left : List ℕ) : Type 0 where
  pub header : 8 ≤ length left
  pub some : 0 < first_number left
  pub allowed : first_number left ≤ limit
  pub there : 8 + first_number left ≤ length left

-- a length stands there that no frame has
abbrev pub IsNoLength : ℕ → List ℕ → Type 0
IsNoLength limit left = (8 ≤ length left) × ((first_number left ≡ 0) ⊎ (limit < first_number left))

-- a body begins with this kind
abbrev pub HasKind : ℕ → List ℕ → Type 0
HasKind kind [] = ⊥
HasKind kind (b ∷ body) = b ≡ kind

-- the bytes begin with a whole frame, of whose body this holds
pub record IsFrameOf (limit : ℕ) (Holds : List ℕ → Type 0) (left : List ℕ) : Type 0 where
  pub whole : IsWholeFrame limit left
  pub body : Holds (take (first_number left) (drop 8 left))

-- what holds of a value that was taken, and of the place after it
abbrev pub IfTaken : {X : Type 0} → Taken X → (X → ℕ → Type 0) → Type 0
IfTaken (Record x next) P = P x next
IfTaken Short P = Unit {0}
IfTaken (Bad place) P = Unit {0}

abbrev pub IfBad : {X : Type 0} → Taken X → (ℕ → Type 0) → Type 0
IfBad (Record x next) P = Unit {0}
IfBad Short P = Unit {0}
IfBad (Bad place) P = P place

-- of the bytes left at a place, the first are the frame of a value that has a spelling, and the next place is after it
pub record IsThere (X : Type 0) (spell : X → List ℕ) (Fits : X → Type 0) (place : ℕ) (left : List ℕ) (x : X)
    (next : ℕ) : Type 0 where
  pub fits : Fits x
  pub parts : left ≡ frame (spell x) ++ drop (length (frame (spell x))) left
  pub next_is : next ≡ place + length (frame (spell x))

-- the bytes are the spelling of a value and no more, and the next place is after them
pub record IsWhole (X : Type 0) (spell : X → List ℕ) (Fits : X → Type 0) (bytes : List ℕ) (x : X) (next : ℕ) :
    Type 0 where
  pub fits : Fits x
  pub all : bytes ≡ spell x
  pub next_is : next ≡ length bytes
