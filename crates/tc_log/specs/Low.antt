-- Up to which number every stable request has a stable answer.
use Rattle.std.specs.Prelude.{ℕ, List}
use Rattle.framed_log.specs.Beginning.{beginning}
use Rattle.history.specs.declared.record.Record.{Record}
use Rattle.history.specs.Legal.{FitsCheckpoint, IsLatest}

-- the greatest number up to which every request has its answer, in the stable beginning
abbrev pub IsGreatestLow : List Record → ℕ → ℕ → Type 0
IsGreatestLow log stable low = IsLatest (FitsCheckpoint (beginning log stable)) low
