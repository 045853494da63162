-- What the transaction component has, as far as clients see it, and the list machines that it stands for.
use Rattle.std.specs.Prelude.{◌≡◌, ◌⊎◌, ◌↔◌, ℕ, ◌+◌, ◌<◌, ◌≤◌, ◌==◌, ◌&&◌, Bool, true, false, not, List, [], ◌∷◌, Option, Some, None, filter, length, nat_lt}
use Rattle.std.specs.List.{AllByRecursion, list_any}
use Rattle.record_key.specs.declared.op.Op.{Op}
use Rattle.history.specs.declared.record.Record.{Record}
use Rattle.history.specs.declared.record.Record.TheVariants as is
use Rattle.history.specs.History.{Entry}
use Rattle.history.specs.Spans.{Span, changed_span}
use Rattle.history.specs.Log.{record_at, answer_of, has_ended, IsOpen, IsOpBy, hist}
use Rattle.history.specs.ListMachine.{Query, Machine, Txn, Status, Open, Waiting, Reading, Rolling, Committing, Committed, Losing, Gone}

-- what an open transaction does: it is ready for a call, waits for the answer of an operation or for a read, or
-- rolls back, wholly or to a savepoint, down to a bound: the log's end at the savepoint, or 0
pub data Doing : Type 0 where
  Ready : Doing
  Awaits : (number : ℕ) → Doing
  Looks : (query : Query) → Doing
  Rolls : (savepoint : Option ℕ) → (bound : ℕ) → Doing

-- the log, the newest record first, and how many of its records are stable; the losers that have no End yet;
-- and for each transaction that is open what it does, the log's end at each of its savepoints, and its spans
pub record View : Type 0 where
  pub log : List Record
  pub stable : ℕ
  pub loses : ℕ → Bool
  pub doing : ℕ → Option Doing
  pub saves : ℕ → List ℕ
  pub spans : ℕ → List Span

-- a rollback is to undo the operation of this number
abbrev pub is_to_undo : Option Doing → ℕ → Bool
is_to_undo (Some (Rolls s bound)) n = nat_lt bound n
is_to_undo _ n = false

-- the entry counts: no compensation names it, and its transaction neither loses nor rolls back past it
abbrev pub counts : View → Entry → Bool
counts v e = not e.crossed && (not (v.loses e.txn) && not (is_to_undo (v.doing e.txn) e.number))

abbrev pub standing : List Entry → List Entry
standing h = filter (λ e. not e.crossed) h

-- numbers fall from the newest on, but of entries that have none
abbrev pub IsFalling : List Entry → Type 0
IsFalling [] = Unit {0}
IsFalling (e ∷ h) = (0 < e.number → AllByRecursion (λ f. f.number < e.number) h) × IsFalling h

-- all that is older than an entry without a number is below this one
abbrev pub IsOverLost : ℕ → List Entry → Type 0
IsOverLost n [] = Unit {0}
IsOverLost n (e ∷ h) = (e.number ≡ 0 → AllByRecursion (λ f. f.number < n) h) × IsOverLost n h

-- it stands in the log; or a crash lost its record, and it is crossed
pub record IsRecorded (log : List Record) (e : Entry) : Type 0 where
  pub is : 0 < e.number → IsOpBy log e.number e.txn e.op
  pub lost : e.number ≡ 0 → e.crossed ≡ true

abbrev pub HasEntry : List Entry → ℕ → ℕ → Op → Type 0
HasEntry [] n t o = ⊥
HasEntry (e ∷ h) n t o = ((e.number ≡ n) × (e.txn ≡ t) × (e.op ≡ o)) ⊎ HasEntry h n t o

-- an open transaction, which does this
pub record IsActive (v : View) (t : ℕ) (d : Doing) : Type 0 where
  pub open_txn : IsOpen v.log t
  pub does : v.doing t ≡ Some d
  pub stays : v.loses t ≡ false

-- one of which the component has nothing but records, whether it loses or not
pub record IsQuiet (v : View) (t : ℕ) (loses : Bool) : Type 0 where
  pub does_none : v.doing t ≡ None
  pub loses_so : v.loses t ≡ loses

-- its record of this number is the Commit
abbrev pub IsCommitAt : List Record → ℕ → ℕ → Type 0
IsCommitAt log t n = record_at log n ≡ Some (is.Commit t)

-- a loser was found in a log that was stable then, and does nothing new
pub record IsLoser (v : View) (t : ℕ) : Type 0 where
  pub quiet : IsQuiet v t true
  pub open_txn : IsOpen v.log t
  pub stable : t ≤ v.stable
  pub found : (n : ℕ) (o : Op) → IsOpBy v.log n t o → n ≤ v.stable

-- its End stands, or its Begin doesn't
abbrev pub IsOver : List Record → ℕ → Type 0
IsOver log t = ((n : ℕ) × (record_at log n ≡ Some (is.End t))) ⊎ (record_at log t ≡ Some is.Begin → ⊥)

-- a status is read off the log, and for an open one off what it does
abbrev pub HasStatusOf : View → ℕ → Status → Type 0
HasStatusOf v t Open = IsActive v t Ready
HasStatusOf v t (Waiting n o) = IsActive v t (Awaits n) × IsOpBy v.log n t o × (answer_of v.log n ≡ None)
HasStatusOf v t (Reading q) = IsActive v t (Looks q)
HasStatusOf v t (Rolling s) = (bound : ℕ) × IsActive v t (Rolls s bound)
HasStatusOf v t Committing = IsQuiet v t false × (n : ℕ) × IsCommitAt v.log t n × (v.stable < n)
HasStatusOf v t Committed = IsQuiet v t false × (n : ℕ) × IsCommitAt v.log t n × (n ≤ v.stable)
HasStatusOf v t Losing = IsLoser v t
HasStatusOf v t Gone = IsQuiet v t false × IsOver v.log t

-- a savepoint remembers just the entries up to the log's end there
pub record Remembers (h : List Entry) (t : ℕ) (kept : List ℕ) (end : ℕ) : Type 0 where
  pub same : AllByRecursion (λ e. e.txn ≡ t → (list_any (λ j. j == e.number) kept ≡ true) ↔ (e.number ≤ end)) h
  pub within : AllByRecursion (λ j. j ≤ end) kept

-- each of them, before the number that its next operation may have
abbrev pub HasSaves : List Entry → ℕ → ℕ → List (List ℕ) → List ℕ → Type 0
HasSaves h t limit [] [] = Unit {0}
HasSaves h t limit (kept ∷ saves) (end ∷ ends) = Remembers h t kept end × (end < limit) × HasSaves h t limit saves ends
HasSaves h t limit _ _ = ⊥

-- only an open one may come back to a savepoint
abbrev pub HasSavesOf : View → List Entry → ℕ → Status → List (List ℕ) → Type 0
HasSavesOf v h t Open saves = HasSaves h t (length v.log + 1) saves (v.saves t)
HasSavesOf v h t (Waiting n o) saves = HasSaves h t n saves (v.saves t)
HasSavesOf v h t (Reading s) saves = HasSaves h t (length v.log + 1) saves (v.saves t)
HasSavesOf v h t (Rolling (Some s)) saves = HasSaves h t (length v.log + 1) saves (v.saves t)
HasSavesOf v h t _ saves = Unit {0}

-- what is waited for has no entry yet, and will stand before those without a number
abbrev pub IsFreeOf : ℕ → List Entry → Type 0
IsFreeOf n h = AllByRecursion (λ e. e.number ≡ n → ⊥) h × IsOverLost n h

abbrev pub IsUnentered : List Entry → Status → Type 0
IsUnentered h (Waiting n o) = IsFreeOf n h
IsUnentered h _ = Unit {0}

abbrev pub IsAmong : Span → List Span → Type 0
IsAmong s [] = ⊥
IsAmong s (r ∷ rs) = (s ≡ r) ⊎ IsAmong s rs

-- the same spans, in any order
abbrev pub AreSpans : List Span → List Span → Type 0
AreSpans xs ys = (s : Span) → IsAmong s xs ↔ IsAmong s ys

-- the keys of the transaction's operations in the log, each held for a change
pub record AreItsKeys (log : List Record) (t : ℕ) (spans : List Span) : Type 0 where
  pub each : (s : Span) → IsAmong s spans → (n : ℕ) × (o : Op) × IsOpBy log n t o × (s ≡ changed_span o)
  pub all : (n : ℕ) (o : Op) → IsOpBy log n t o → IsAmong (changed_span o) spans

-- an open or committing one holds what the component has for it, a loser the keys of its operations
abbrev pub HoldsAs : View → ℕ → Status → List Span → Type 0
HoldsAs v t Committed spans = spans ≡ []
HoldsAs v t Gone spans = spans ≡ []
HoldsAs v t Losing spans = AreItsKeys v.log t spans
HoldsAs v t _ spans = AreSpans spans (v.spans t)

-- an operation of which the client was told nothing
abbrev pub IsUntold : Status → Type 0
IsUntold (Waiting n o) = Unit {0}
IsUntold Losing = Unit {0}
IsUntold Gone = Unit {0}
IsUntold _ = ⊥

-- a transaction of the machine: it has begun where its Begin stands, its last operation is in the log, and each of
-- its operations in the log has its entry, or is the last and was untold
pub record IsTxnOf (v : View) (h : List Entry) (t : ℕ) (x : Txn) : Type 0 where
  pub begun : (x.begun ≡ true) ↔ (record_at v.log t ≡ Some is.Begin)
  pub status : HasStatusOf v t x.status
  pub saves : HasSavesOf v h t x.status x.saves
  pub spans : HoldsAs v t x.status x.spans
  pub unentered : IsUnentered h x.status
  pub logged : (n : ℕ) (o : Op) → x.last ≡ Some (n, o) → IsOpBy v.log n t o
  pub entered : (n : ℕ) (o : Op) → IsOpBy v.log n t o → HasEntry h n t o ⊎ ((x.last ≡ Some (n, o)) × IsUntold x.status)

-- a relation: what was told and lost its Answer record in a crash keeps its entry, crossed, and without a number where
-- it lost its own record too
pub record StandsFor (v : View) (m : Machine) : Type 0 where
  pub entries : standing m.h ≡ filter (counts v) (hist v.log)
  pub falling : IsFalling m.h
  pub recorded : AllByRecursion (IsRecorded v.log) m.h
  pub each : (t : ℕ) → IsTxnOf v m.h t (m.txns t)

-- it has begun, and neither Commit nor End stands
abbrev pub is_begin : Option Record → Bool
is_begin (Some is.Begin) = true
is_begin _ = false

abbrev pub is_left_open : List Record → ℕ → Bool
is_left_open log t = is_begin (record_at log t) && not (has_ended log t)

-- the component as it is opened on this log: all of it is stable, nobody is open, and whoever was loses
abbrev pub opened : List Record → View
opened log = record {
  log = log;
  stable = length log;
  loses = is_left_open log;
  doing = λ _. None;
  saves = λ _. [];
  spans = λ _. [];
}
