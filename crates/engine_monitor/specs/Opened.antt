-- What an engine is made of before it has a name.
use Rattle.std.specs.Prelude.{◌≡◌, ℕ, ◌+◌, zero, suc, List, [], ◌∷◌, Some, length, slice_get, map}
use Rattle.std.specs.List.{AllByRecursion}
use Rattle.atomic_table.specs.Seated.{TableId}
use Rattle.boxcar.specs.Table.{Shelves}
use Rattle.engine_marks.specs.Seen.{Seen, raiser, reader}
use Rattle.engine_monitor.specs.declared.opened.SessionStart.{SessionStart}
use Rattle.engine_guarded.specs.engine_history.specs.Steps.{Start, node_at}
use Rattle.engine_guarded.specs.engine_history.specs.node_laws.specs.Component.{TcSide, DcSide}
use Rattle.engine_guarded.specs.engine_history.specs.node_laws.specs.Node.{NodeView}

-- the components of the node with which it begins, its entries, its marks, and the names of its agreements: of each
-- session, and of the engine itself
pub record OpenedView : Type 0 where
  pub start : Start
  pub entries : Shelves
  pub marks : TableId
  pub own : ℕ
  pub sessions : List ℕ

abbrev pub start_of : NodeView → Start
start_of w = record { tc = record { up = w.tc_up; tc = w.tc }; dc = record { up = w.dc_up; dc = w.dc } }

abbrev pub agreements_of : List SessionStart → List ℕ
agreements_of session_starts = map (λ (c : SessionStart). c.ends) session_starts

abbrev pub opened_as : NodeView → Shelves → TableId → ℕ → List SessionStart → OpenedView
opened_as node entries marks own session_starts =
    record { start = start_of node; entries = entries; marks = marks; own = own; sessions = agreements_of session_starts }

-- its seat reads these marks, and has seen nothing of them
abbrev pub ReadsMarks : TableId → SessionStart → Type 0
ReadsMarks marks session_start = session_start.seat ≡ reader marks 0 0

-- nobody has raised the marks, and no message is on its way in the node
pub record IsOpenedWith (marks : TableId) (seat : Seen) (session_starts : List SessionStart) (node : NodeView)
    : Type 0 where
  pub raises : seat ≡ raiser marks 0 0
  pub reads : AllByRecursion (ReadsMarks marks) session_starts
  pub starts : node ≡ node_at (start_of node)

-- the agreements of the sessions have these names
abbrev pub AreAgreed : (ℕ → ℕ) → List ℕ → Type 0
AreAgreed names sessions = (k n : ℕ) → slice_get sessions k ≡ Some n → n ≡ names (k + 2)

-- it goes by these names
pub record IsNamed (o : OpenedView) (start : Start) (entries : Shelves) (marks : TableId) (names : ℕ → ℕ) (sessions : ℕ)
    : Type 0 where
  pub start_is : o.start ≡ start
  pub entries_are : o.entries ≡ entries
  pub marks_are : o.marks ≡ marks
  pub agreed : AreAgreed names o.sessions
  pub own : o.own ≡ names (sessions + 2)
  pub count : length o.sessions ≡ sessions

-- the name at a place, or else this one
abbrev pub name_at : List ℕ → ℕ → ℕ → ℕ
name_at [] last k = last
name_at (n ∷ ns) last zero = n
name_at (n ∷ ns) last (suc k) = name_at ns last k

-- the name of each agreement, from 2 on: of the sessions first, then of the engine itself
abbrev pub agreement_name : OpenedView → ℕ → ℕ
agreement_name o zero = 0
agreement_name o (suc zero) = 0
agreement_name o (suc (suc k)) = name_at o.sessions o.own k
