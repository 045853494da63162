-- What an engine is made of before it has a name.
use Rattle.std.specs.Prelude.{◌≡◌, ℕ, ◌+◌, zero, suc, List, [], ◌∷◌, Some, length, slice_get, map}
use Rattle.std.specs.List.{AllByRecursion}
use Rattle.atomic_table.specs.Seated.{TableId}
use Rattle.boxcar.specs.Table.{Shelves}
use Rattle.engine_marks.specs.Seen.{Seen, raiser, reader}
use Rattle.engine_workers.specs.declared.opened.SessionStart.{SessionStart}
use Rattle.engine_sessions.specs.engine_history.specs.Steps.{Start, IsStart}

-- the components with which it begins, its entries, its marks, and the names of its agreements: of each component, of
-- the engine itself, and of each session
pub record OpenedView : Type 0 where
  pub start : Start
  pub entries : Shelves
  pub marks : TableId
  pub tc : ℕ
  pub dc : ℕ
  pub own : ℕ
  pub sessions : List ℕ

abbrev pub agreements_of : List SessionStart → List ℕ
agreements_of session_starts = map (λ (c : SessionStart). c.ends) session_starts

abbrev pub opened_as : Start → Shelves → TableId → ℕ → ℕ → ℕ → List SessionStart → OpenedView
opened_as start entries marks tc dc own session_starts = record {
  start = start;
  entries = entries;
  marks = marks;
  tc = tc;
  dc = dc;
  own = own;
  sessions = agreements_of session_starts;
}

-- its seat reads these marks, and has seen nothing of them
abbrev pub ReadsMarks : TableId → SessionStart → Type 0
ReadsMarks marks session_start = session_start.seat ≡ reader marks 0 0

-- nobody has raised the marks, and a history may begin with the components
pub record IsOpenedWith (marks : TableId) (seat : Seen) (session_starts : List SessionStart) (start : Start)
    : Type 0 where
  pub raises : seat ≡ raiser marks 0 0
  pub reads : AllByRecursion (ReadsMarks marks) session_starts
  pub starts : IsStart start

-- the agreements of the sessions have these names
abbrev pub AreAgreed : (ℕ → ℕ) → List ℕ → Type 0
AreAgreed names sessions = (k n : ℕ) → slice_get sessions k ≡ Some n → n ≡ names (k + 3)

-- it goes by these names
pub record IsNamed (o : OpenedView) (start : Start) (entries : Shelves) (marks : TableId) (names : ℕ → ℕ) (sessions : ℕ)
    : Type 0 where
  pub start_is : o.start ≡ start
  pub entries_are : o.entries ≡ entries
  pub marks_are : o.marks ≡ marks
  pub tc : o.tc ≡ names 0
  pub dc : o.dc ≡ names 1
  pub own : o.own ≡ names 2
  pub agreed : AreAgreed names o.sessions
  pub count : length o.sessions ≡ sessions

-- the name at a place, where there is one
abbrev pub name_at : List ℕ → ℕ → ℕ
name_at [] k = 0
name_at (n ∷ ns) zero = n
name_at (n ∷ ns) (suc k) = name_at ns k

-- the name of each agreement: of the components first, then of the engine itself, then of the sessions
abbrev pub agreement_name : OpenedView → ℕ → ℕ
agreement_name o k = name_at (o.tc ∷ o.dc ∷ o.own ∷ o.sessions) k
