-- Beginnings of a log, which is a list with the newest record first.
use Rattle.std.specs.Prelude.{ℕ, ◌-◌, List, length, drop}

-- the first records, so many
abbrev pub beginning : {X : Type 0} → List X → ℕ → List X
beginning log n = drop (length log - n) log
