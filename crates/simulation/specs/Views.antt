-- What the machines that the component stands for have in common with its log and its locks.
use Rattle.std.specs.Prelude.{◌≡◌, ◌≢◌, ◌⊎◌, ℕ, ◌≤◌, false, true, List, [], ◌∷◌, None, IsSome}
use Rattle.std.specs.FinMap.{get}
use Rattle.record_key.specs.declared.op.Op.{Op}
use Rattle.record_key.specs.Table.{Bytes, key_of}
use Rattle.history.specs.declared.record.Record.{Record}
use Rattle.history.specs.declared.record.Record.TheVariants as is
use Rattle.history.specs.History.{plain}
use Rattle.history.specs.Spans.{Span, Conflict, AnyConflict, changed_span}
use Rattle.history.specs.Log.{answer_of, is_crossed, IsOpBy, hist}
use Rattle.history.specs.Legal.{IsLegal}
use Rattle.history.specs.Values.{HasRightAnswers, value_on}
use Rattle.history.specs.ListMachine.{Machine, IsFree}
use Rattle.simulation.specs.View.{View, IsCommitAt, AreItsKeys, is_to_undo, standing, opened, StandsFor}
use Rattle.simulation.specs.Running.{put}

-- nobody loses, and nobody rolls back
pub record IsCalm (v : View) : Type 0 where
  pub stays : (t : ℕ) → v.loses t ≡ false
  pub unrolled : (t n : ℕ) → is_to_undo (v.doing t) n ≡ false

-- then the entries that stand are those of the log
abbrev pub CalmEntriesAreTheLogs : Type 0
CalmEntriesAreTheLogs = (v : View) (m : Machine) → StandsFor v m → IsCalm v → standing m.h ≡ standing (hist v.log)

-- at a key whose operations are answered or undone, and of nobody who loses or is to undo them, the plain map
-- has what the log leaves
abbrev pub PlainIsTheLogs : Type 0
PlainIsTheLogs =
    (v : View) (m : Machine) (k : Bytes) → IsLegal v.log → HasRightAnswers v.log → StandsFor v m
    → ((n t : ℕ) (o : Op) → IsOpBy v.log n t o → k ≡ key_of o → is_crossed v.log n ≡ false
    → IsSome (answer_of v.log n) × (v.loses t ≡ false) × (is_to_undo (v.doing t) n ≡ false))
    → get (plain m.h) k ≡ value_on k v.log

-- a span is free for the machine where the component's spans, and the keys of losers, leave it free
abbrev pub FreeSpansAreFree : Type 0
FreeSpansAreFree =
    (v : View) (m : Machine) (t : ℕ) (s : Span) → StandsFor v m
    → ((u : ℕ) → u ≢ t → AnyConflict s (v.spans u) → ⊥)
    → ((u n : ℕ) (o : Op) → v.loses u ≡ true → IsOpBy v.log n u o → Conflict s (changed_span o) → ⊥)
    → IsFree m t s

-- no Commit of the transaction waits for a force
abbrev pub IsUncommitting : View → ℕ → Type 0
IsUncommitting v t = (n : ℕ) → IsCommitAt v.log t n → n ≤ v.stable

-- whoever is over has no spans, and a loser has those of its operations
pub record HasTrueSpans (v : View) : Type 0 where
  pub let_go : (t : ℕ) → v.doing t ≡ None → v.loses t ≡ false → IsUncommitting v t → v.spans t ≡ []
  pub losers : (t : ℕ) → v.loses t ≡ true → AreItsKeys v.log t (v.spans t)

-- where the spans are these, they alone tell what is free
abbrev pub FreeByTrueSpans : Type 0
FreeByTrueSpans =
    (v : View) (m : Machine) (t : ℕ) (s : Span) → StandsFor v m → HasTrueSpans v
    → ((u : ℕ) → u ≢ t → AnyConflict s (v.spans u) → ⊥) → IsFree m t s

-- records that say nothing of a transaction
abbrev pub NeutralIsNoStep : Type 0
NeutralIsNoStep =
    (v : View) (m : Machine) (r : Record) (low : ℕ) → StandsFor v m → ((r ≡ is.Session) ⊎ (r ≡ is.Checkpoint low))
    → StandsFor (record v { log = r ∷ v.log }) m

-- of whoever isn't open the component may have any savepoints, and any spans if no Commit of it waits for a force
abbrev pub LeftoversAreNoStep : Type 0
LeftoversAreNoStep =
    (v : View) (m : Machine) (saves : ℕ → List ℕ) (spans : ℕ → List Span) → StandsFor v m
    → ((t : ℕ) → (saves t ≡ v.saves t) ⊎ (v.doing t ≡ None))
    → ((t : ℕ) → (spans t ≡ v.spans t) ⊎ ((v.doing t ≡ None) × IsUncommitting v t))
    → StandsFor (record v { saves = saves; spans = spans }) m

-- so the spans of one such may be let go
abbrev pub LetGoIsNoStep : Type 0
LetGoIsNoStep =
    (v : View) (m : Machine) (t : ℕ) → StandsFor v m → v.doing t ≡ None → IsUncommitting v t
    → StandsFor (record v { spans = put v.spans t [] }) m

-- and an opened component may have rebuilt any
abbrev pub RebuiltSpansAreNoStep : Type 0
RebuiltSpansAreNoStep =
    (log : List Record) (m : Machine) (spans : ℕ → List Span) → StandsFor (opened log) m
    → StandsFor (record (opened log) { spans = spans }) m
