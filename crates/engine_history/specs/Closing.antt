-- The sessions of an engine, at its beginning and at its end.
use Rattle.std.specs.Prelude.{◌≡◌, ℕ, ◌≤◌, zero, suc, List, [], ◌∷◌, ◌++◌, map}
use Rattle.atomic_table.specs.Seated.{TableId}
use Rattle.engine_marks.specs.Seen.{reader}
use Rattle.engine_history.specs.Callers.{IsGrown, SessionView}
use Rattle.engine_history.specs.Sessions.{no_calls, calls_by}
use Rattle.engine_history.specs.declared.step.Step.{Step}

-- a session that has made no call, and has seen nothing of the marks
abbrev pub IsFresh : TableId → SessionView → Type 0
IsFresh marks s = (s.calls ≡ no_calls) × (s.seat ≡ reader marks 0 0)

-- the numbers below one, in order
abbrev pub below : ℕ → List ℕ
below zero = []
below (suc n) = below n ++ n ∷ []

abbrev pub numbers_named : List SessionView → List ℕ
numbers_named ss = map (λ (s : SessionView). s.number) ss

-- the session's calls of these steps are just those that it knows of; of one that is unfinished more may have been
-- told. And it hasn't seen the log stable further than it is
abbrev pub IsKeptBy : List Step → ℕ → SessionView → Type 0
IsKeptBy es stable s = IsGrown s.calls (calls_by s.number es) × (s.seat.stable ≤ stable)
