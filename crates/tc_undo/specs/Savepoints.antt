-- Savepoints by their numbers, which count from 1 on.
use Rattle.std.specs.Prelude.{ℕ, ◌≤◌, List, length}

-- a savepoint of this number is present
abbrev pub IsPresent : List ℕ → ℕ → Type 0
IsPresent saves s = (1 ≤ s) × (s ≤ length saves)
