-- What bytes are when a log is opened from them: the frames of its records, or bad at a place.
use Rattle.std.specs.Prelude.{◌≡◌, ◌⊎◌, ℕ, ◌+◌, ◌<◌, ◌^◌, List, ◌++◌, length}
use Rattle.codec.specs.Frames.{frame, IsCut}
use Rattle.record_key.specs.declared.refusal.Refusal.{Refusal}
use Rattle.record_key.specs.declared.refusal.Refusal.TheVariants.{NoMemory, BadBytes}
use Rattle.framed_log.specs.Spelled.{Framing, AreRecords, spelled}

-- the bytes are the frames of these records, and after them nothing or a frame that is cut
pub record HoldsFrames {X : Type 0} (f : Framing X) (bytes : List ℕ) (log : List X) : Type 0 where
  pub records : AreRecords f log
  pub left : List ℕ
  pub parts : bytes ≡ spelled f log ++ left
  pub cut : IsCut f.limit left

-- the bytes begin with the frames of a log that is good, whose next record has a number or none; and these are left
pub record BeginsAs {X : Type 0} (f : Framing X) (IsGood : List X → Type 0) (bytes : List ℕ) (log : List X)
    (left : List ℕ) : Type 0 where
  pub records : AreRecords f log
  pub good : IsGood log
  pub numbered : length log < 2 ^ 48
  pub parts : bytes ≡ spelled f log ++ left

-- the bytes begin with the record's frame
pub record BeginsWithFrame {X : Type 0} (f : Framing X) (bytes : List ℕ) (r : X) : Type 0 where
  pub fits : f.Fits r
  pub rest : List ℕ
  pub parts : bytes ≡ frame (f.spell r) ++ rest

-- no record's frame, and no beginning of a frame
pub record IsNoFrame {X : Type 0} (f : Framing X) (bytes : List ℕ) : Type 0 where
  pub uncut : IsCut f.limit bytes → ⊥
  pub none : (r : X) → BeginsWithFrame f bytes r → ⊥

-- a record that may not come next, or whose number would be 2 to the power of 48
pub record IsUnfit {X : Type 0} (f : Framing X) (MayFollow : List X → X → Type 0) (log : List X) (bytes : List ℕ)
    : Type 0 where
  pub next : X
  pub stands : BeginsWithFrame f bytes next
  pub unfit : (MayFollow log next → ⊥) ⊎ (length log + 1 ≡ 2 ^ 48)

-- the first frame that is bad, or whose record doesn't fit or has no number, begins at this place
pub record IsBadAt {X : Type 0} (f : Framing X) (IsGood : List X → Type 0) (MayFollow : List X → X → Type 0)
    (bytes : List ℕ) (place : ℕ) : Type 0 where
  pub log : List X
  pub left : List ℕ
  pub begins : BeginsAs f IsGood bytes log left
  pub place_is : place ≡ length (spelled f log)
  pub bad : IsNoFrame f left ⊎ IsUnfit f MayFollow log left

-- why bytes aren't opened
abbrev pub RefusesBytes : {X : Type 0} → Framing X → (List X → Type 0) → (List X → X → Type 0) → List ℕ → Refusal
    → Type 0
RefusesBytes f IsGood MayFollow bytes given =
    (given ≡ NoMemory) ⊎ ((place : ℕ) × (given ≡ BadBytes place) × IsBadAt f IsGood MayFollow bytes place)
