-- What a seat of the marks has seen, as callers know it.
use Rattle.std.specs.Prelude.{ℕ, ◌+◌, ◌≤◌, Bool, true, false}
use Rattle.atomic_table.specs.Seated.{TableId}

-- which marks the seat belongs to, whether it may raise them, the greatest pair that it has seen, and how often the marks
-- were read by it, since it was told what the raiser's has seen
pub record Seen : Type 0 where
  pub marks : TableId
  pub raises : Bool
  pub stable : ℕ
  pub low : ℕ
  pub readings : ℕ

-- the seat that raises the marks, when these words are its view and nobody has read by it
abbrev pub raiser : TableId → ℕ → ℕ → Seen
raiser marks stable low = record { marks = marks; raises = true; stable = stable; low = low; readings = 0 }

-- a reader's seat that was told these words
abbrev pub reader : TableId → ℕ → ℕ → Seen
reader marks stable low = record { marks = marks; raises = false; stable = stable; low = low; readings = 0 }

-- the same seat, when these words are its view
abbrev pub seeing : Seen → ℕ → ℕ → Seen
seeing seat stable low = record {
  marks = seat.marks;
  raises = seat.raises;
  stable = stable;
  low = low;
  readings = seat.readings;
}

-- the same seat, when one more reading has found these words
abbrev pub having_read : Seen → ℕ → ℕ → Seen
having_read seat stable low = record {
  marks = seat.marks;
  raises = seat.raises;
  stable = stable;
  low = low;
  readings = seat.readings + 1;
}

-- what the one has seen is no more than what the other has
abbrev pub SeenBy : Seen → Seen → Type 0
SeenBy one other = (one.stable ≤ other.stable) × (one.low ≤ other.low)
