-- What a crash leaves of a log.
use Rattle.std.specs.Prelude.{ℕ, ◌≤◌, List, length}
use Rattle.framed_log.specs.Beginning.{beginning}
use Rattle.framed_log.specs.Spelled.{Framing, spelled}

-- what a crash left is what this says of the first records, so many: of all that are stable, and of each one more whose
-- frame there is room for
pub record LeavesBeginning {X : Type 0} (f : Framing X) (Is : List ℕ → List X → Type 0) (log : List X) (stable : ℕ)
    (left : List ℕ) : Type 0 where
  pub count : ℕ
  pub stable_left : stable ≤ count
  pub within : count ≤ length log
  pub is : Is left (beginning log count)
  pub most : (n : ℕ) → n ≤ length log → length (spelled f (beginning log n)) ≤ length left → n ≤ count
