-- What a sender may ask of a log.
use Rattle.std.specs.Prelude.{ℕ, ◌<◌, ◌≤◌, List, Option, Some, None}
use Rattle.record_key.specs.declared.op.Op.{Op}
use Rattle.history.specs.declared.record.Record.{Record}
use Rattle.history.specs.Log.{Requests}

-- no record of these numbers asks for anything
abbrev pub AsksNothing : List Record → ℕ → ℕ → Type 0
AsksNothing log from below = (n : ℕ) (o : Op) → from ≤ n → n < below → Requests log n o → ⊥

-- the first record of these numbers that asks for something, and for what
abbrev pub FindsRequest : List Record → ℕ → ℕ → Option (ℕ × Op) → Type 0
FindsRequest log from below None = AsksNothing log from below
FindsRequest log from below (Some x) = (from ≤ x.0) × (x.0 < below) × Requests log x.0 x.1 × AsksNothing log from x.0
