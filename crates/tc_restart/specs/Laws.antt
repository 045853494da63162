-- What other records do to losers.
use Rattle.std.specs.Prelude.{ℕ, ◌≤◌, List, ◌∷◌}
use Rattle.history.specs.declared.record.Record.{Record}
use Rattle.history.specs.declared.record.Record.TheVariants as is
use Rattle.history.specs.Legal.{IsLegal}
use Rattle.tc_restart.specs.Losers.{LosersView, AreLosers}

-- no step and no end of a transaction that began below this number
abbrev pub SparesBelow : ℕ → Record → Type 0
SparesBelow below (is.Op t p o) = below ≤ t
SparesBelow below (is.Comp t u x i) = below ≤ t
SparesBelow below (is.Commit t) = below ≤ t
SparesBelow below (is.End t) = below ≤ t
SparesBelow below _ = Unit {0}

-- such a record leaves the losers as they are
abbrev pub OthersSpareLosers : Type 0
OthersSpareLosers =
    (log : List Record) (r : Record) (l : LosersView) → AreLosers log l → IsLegal (r ∷ log) → SparesBelow l.below r
    → AreLosers (r ∷ log) l
