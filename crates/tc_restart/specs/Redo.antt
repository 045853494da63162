-- What redo sends next.
use Rattle.std.specs.Prelude.{ℕ, ◌<◌, ◌≤◌, List, Option, IsSome, MatchOption}
use Rattle.history.specs.declared.record.Record.{Record}
use Rattle.history.specs.Log.{record_at, request_in}
use Rattle.tc_restart.specs.Losers.{IsLeast}

-- a record of these numbers that asks for something: an Op, or a Comp with an inverse
pub record Asks (log : List Record) (from below n : ℕ) : Type 0 where
  pub from_there : from ≤ n
  pub up_to : n < below
  pub asks : IsSome (request_in (record_at log n))

-- the first of them, none where there is none
abbrev pub FindsRequest : List Record → ℕ → ℕ → Option ℕ → Type 0
FindsRequest log from below found =
    MatchOption found ((n : ℕ) → Asks log from below n → ⊥) (IsLeast (Asks log from below))
