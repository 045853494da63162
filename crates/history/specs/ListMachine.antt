-- The list machine: what clients may be told. One history for all, and for each transaction what it does,
-- its savepoints, its last operation and the spans it holds. One step is a call with what it gave, a line
-- that a client is told, or a crash of the transaction component.
use Rattle.std.specs.Prelude.{◌≡◌, ◌≢◌, ◌⊎◌, ℕ, ◌+◌, ◌-◌, ◌<◌, ◌≤◌, ◌==◌, ◌||◌, Bool, true, false, not, List, [], ◌∷◌, ◌++◌, Option, Some, None, length, map, nat_lt, slice_get, take, if◌then◌else◌}
use Rattle.std.specs.List.{AllByRecursion}
use Rattle.std.specs.FinMap.{get}
use Rattle.record_key.specs.declared.op.Op.{Op}
use Rattle.record_key.specs.declared.op.Answer.{Answer}
use Rattle.record_key.specs.declared.refusal.Refusal.{Refusal}
use Rattle.record_key.specs.declared.refusal.Refusal.TheVariants as no
use Rattle.record_key.specs.Table.{Bytes, answer_in}
use Rattle.record_key.specs.Order.{Range, HasKeys, one_key, rows_in}
use Rattle.history.specs.History.{Entry, plain, placed, cross, numbers_of, is_among, is_left, left_of, lost}
use Rattle.history.specs.Spans.{Span, Shared, changed_span, AnyConflict}

-- what a read asks for: the record of a key, or the records of a range, to the end where it has no upper one
pub data Query : Type 0 where
  OfKey : (key : Bytes) → Query
  OfRange : (lo : Bytes) → (hi : Option Bytes) → Query

-- the keys that a read looks at
abbrev pub asked_range : Query → Range
asked_range (OfKey k) = one_key k
asked_range (OfRange lo hi) = record { lo = lo; hi = hi }

-- it holds them shared
abbrev pub asked_span : Query → Span
asked_span q = record { range = asked_range q; mode = Shared }

-- what a transaction waits for or does
pub data Status : Type 0 where
  Open : Status
  Waiting : (number : ℕ) → (op : Op) → Status
  Reading : (query : Query) → Status
  Rolling : (savepoint : Option ℕ) → Status
  Committing : Status
  Committed : Status
  Losing : Status
  Gone : Status

-- whether its Begin was given and not lost; a savepoint is the numbers of the entries that the transaction had;
-- the last operation stays after the end, since a crash may bring its transaction back
pub record Txn : Type 0 where
  pub begun : Bool
  pub status : Status
  pub saves : List (List ℕ)
  pub last : Option (ℕ × Op)
  pub spans : List Span

-- the history of all, and each transaction by its number
pub record Machine : Type 0 where
  pub h : List Entry
  pub txns : ℕ → Txn

-- a client's call; all but the first name their transaction
pub data Call : Type 0 where
  ToBegin : Call
  ToAct : (t : ℕ) → (op : Op) → Call
  ToRead : (t : ℕ) → (query : Query) → Call
  ToSave : (t : ℕ) → Call
  ToGoBack : (t : ℕ) → (savepoint : ℕ) → Call
  ToRollBack : (t : ℕ) → Call
  ToCommit : (t : ℕ) → Call

-- a call with what it gave, a told line, a crash of the transaction component, or a refused call
pub data Line : Type 0 where
  Begins : (t : ℕ) → Line
  Acts : (t : ℕ) → (op : Op) → (number : ℕ) → Line
  TellsAnswer : (t : ℕ) → (answer : Answer) → Line
  Reads : (t : ℕ) → (query : Query) → Line
  TellsRow : (t : ℕ) → (value : Option Bytes) → Line
  TellsRows : (t : ℕ) → (rows : List (Bytes × Bytes)) → Line
  Saves : (t : ℕ) → (savepoint : ℕ) → Line
  GoesBack : (t : ℕ) → (savepoint : ℕ) → Line
  TellsBack : (t : ℕ) → (savepoint : ℕ) → Line
  RollsBack : (t : ℕ) → Line
  TellsRolledBack : (t : ℕ) → Line
  Commits : (t : ℕ) → Line
  TellsCommitted : (t : ℕ) → Line
  Crashes : Line
  TellsLost : (t : ℕ) → Line
  IsRefused : (call : Call) → (refusal : Refusal) → Line

abbrev pub with_txn : Machine → ℕ → Txn → Machine
with_txn m t x = record m { txns = λ u. if u == t then x else m.txns u }

abbrev pub with_status : Machine → ℕ → Status → Machine
with_status m t s = with_txn m t (record (m.txns t) { status = s })

abbrev pub HasStatus : Machine → ℕ → Status → Type 0
HasStatus m t s = (m.txns t).status ≡ s

-- a transaction that has done nothing: one that has begun, and one that hasn't
abbrev pub blank : Txn
blank = record { begun = true; status = Open; saves = []; last = None; spans = [] }

abbrev pub nobody : Txn
nobody = record { begun = false; status = Gone; saves = []; last = None; spans = [] }

-- one that holds nothing any more
abbrev pub ended : Txn → Status → Txn
ended x s = record x { status = s; saves = []; spans = [] }

-- no other transaction holds a conflicting span
abbrev pub IsFree : Machine → ℕ → Span → Type 0
IsFree m t s = (u : ℕ) → u ≢ t → AnyConflict s (m.txns u).spans → ⊥

-- the number is above the one that is waited for
abbrev pub IsAbove : ℕ → Status → Type 0
IsAbove n (Waiting k o) = k < n
IsAbove n _ = Unit {0}

-- it is above all others: of entries, of transactions that have begun, and those that are waited for
abbrev pub IsAboveAll : ℕ → Machine → Type 0
IsAboveAll n m =
    AllByRecursion (λ e. e.number < n) m.h × ((u : ℕ) → (m.txns u).begun ≡ true → u < n)
    × ((u : ℕ) → IsAbove n (m.txns u).status)

-- the keys of the transaction's entries that keep their numbers, and of its last operation
abbrev pub entry_spans : ℕ → ℕ → List Entry → List Span
entry_spans bound t h = map (λ e. changed_span e.op) (left_of bound t h)

abbrev pub last_spans : Option (ℕ × Op) → List Span
last_spans None = []
last_spans (Some last) = changed_span last.1 ∷ []

abbrev pub last_left : ℕ → Option (ℕ × Op) → Option (ℕ × Op)
last_left bound None = None
last_left bound (Some last) = if is_left bound last.0 then Some last else None

-- a loser holds the keys of its operations that are left, answered or not
abbrev pub losing : Machine → ℕ → ℕ → Txn
losing m bound t = record {
  begun = true;
  status = Losing;
  saves = [];
  last = last_left bound (m.txns t).last;
  spans = entry_spans bound t m.h ++ last_spans (last_left bound (m.txns t).last);
}

-- it loses from now on, or its Begin is lost
abbrev pub Falls : Machine → ℕ → ℕ → Txn → Type 0
Falls m bound t new = ((t ≤ bound) × (new ≡ losing m bound t)) ⊎ ((bound < t) × (new ≡ nobody))

-- no entry of the transaction loses its number
abbrev pub AreAllLeft : ℕ → ℕ → List Entry → Type 0
AreAllLeft bound t h = AllByRecursion (λ e. e.txn ≡ t → e.number ≤ bound) h

-- it stays as it is, and its entries keep their numbers
abbrev pub Stays : Machine → ℕ → ℕ → Txn → Type 0
Stays m bound t new = (new ≡ m.txns t) × AreAllLeft bound t m.h

-- what a crash that loses all records above the bound makes of a transaction, and whether its entries are crossed
abbrev pub Survives : Machine → ℕ → ℕ → Status → Txn → Bool → Type 0
Survives m bound t Committing new fell =
    ((new ≡ ended (m.txns t) Committed) × AreAllLeft bound t m.h × (fell ≡ false))
    ⊎ (Falls m bound t new × (fell ≡ true))
Survives m bound t Committed new fell = Stays m bound t new × (fell ≡ false)
Survives m bound t Losing new fell = Stays m bound t new × (fell ≡ false)
Survives m bound t Gone new fell =
    (Stays m bound t new ⊎ (((m.txns t).begun ≡ true) × Falls m bound t new)) × (fell ≡ false)
Survives m bound t Open new fell = Falls m bound t new × (fell ≡ true)
Survives m bound t (Waiting n o) new fell = Falls m bound t new × (fell ≡ true)
Survives m bound t (Reading q) new fell = Falls m bound t new × (fell ≡ true)
Survives m bound t (Rolling s) new fell = Falls m bound t new × (fell ≡ true)

abbrev pub fallen : (ℕ → Bool) → ℕ → Entry → Entry
fallen fell bound e = if nat_lt bound e.number then lost e else record e { crossed = e.crossed || fell e.txn }

-- whether it counts among the 64: it is neither committing nor over
abbrev pub is_live : Status → Bool
is_live Open = true
is_live (Waiting n o) = true
is_live (Reading q) = true
is_live (Rolling s) = true
is_live _ = false

abbrev pub AreDifferent : List ℕ → Type 0
AreDifferent [] = Unit {0}
AreDifferent (t ∷ ts) = AllByRecursion (λ u. u ≢ t) ts × AreDifferent ts

-- 64 transactions are live
pub record IsFull (m : Machine) : Type 0 where
  pub ts : List ℕ
  pub count : length ts ≡ 64
  pub different : AreDifferent ts
  pub live : AllByRecursion (λ t. is_live (m.txns t).status ≡ true) ts

-- another holds what conflicts with the span, and this is the least such
pub record IsHolder (m : Machine) (t : ℕ) (s : Span) (u : ℕ) : Type 0 where
  pub other : u ≢ t
  pub conflicts : AnyConflict s (m.txns u).spans
  pub least : (v : ℕ) → v ≢ t → AnyConflict s (m.txns v).spans → u ≤ v

-- the transaction that a call names
abbrev pub NamesWhere : (Txn → Type 0) → Machine → Call → Type 0
NamesWhere P m ToBegin = ⊥
NamesWhere P m (ToAct t o) = P (m.txns t)
NamesWhere P m (ToRead t q) = P (m.txns t)
NamesWhere P m (ToSave t) = P (m.txns t)
NamesWhere P m (ToGoBack t s) = P (m.txns t)
NamesWhere P m (ToRollBack t) = P (m.txns t)
NamesWhere P m (ToCommit t) = P (m.txns t)

abbrev pub IsNotOpen : Txn → Type 0
IsNotOpen x = (x.status ≡ Committing) ⊎ (x.status ≡ Committed) ⊎ (x.status ≡ Losing) ⊎ (x.status ≡ Gone)

abbrev pub IsUnanswered : Txn → Type 0
IsUnanswered x = ((n : ℕ) × (o : Op) × (x.status ≡ Waiting n o)) ⊎ ((q : Query) × (x.status ≡ Reading q))

abbrev pub IsRollingBack : Txn → Type 0
IsRollingBack x = (s : Option ℕ) × (x.status ≡ Rolling s)

-- a call for this span meets a holder
abbrev pub MeetsHolder : Machine → Call → ℕ → Type 0
MeetsHolder m (ToAct t o) u = HasStatus m t Open × IsHolder m t (changed_span o) u
MeetsHolder m (ToRead t q) u = HasStatus m t Open × IsHolder m t (asked_span q) u
MeetsHolder m _ u = ⊥

abbrev pub AsksNoRange : Call → Type 0
AsksNoRange (ToRead t q) = HasKeys (asked_range q) → ⊥
AsksNoRange _ = ⊥

-- no room for a transaction, or for a savepoint
abbrev pub FindsFull : Machine → Call → Type 0
FindsFull m ToBegin = IsFull m
FindsFull m (ToSave t) = HasStatus m t Open × (16 ≤ length (m.txns t).saves)
FindsFull m _ = ⊥

abbrev pub NamesNoSavepoint : Machine → Call → Type 0
NamesNoSavepoint m (ToGoBack t s) = HasStatus m t Open × ((s ≡ 0) ⊎ (length (m.txns t).saves < s))
NamesNoSavepoint m _ = ⊥

-- the cause of a refused call. Of want of memory, numbers or a working device, and of a node that doesn't
-- serve yet, nothing is seen here; all others are causes of no client's call.
abbrev pub HasCause : Machine → Call → Refusal → Type 0
HasCause m call (no.Busy u) = MeetsHolder m call u
HasCause m call no.BadRange = AsksNoRange call
HasCause m call no.Full = FindsFull m call
HasCause m call no.BadSavepoint = NamesNoSavepoint m call
HasCause m call no.NotOpen = NamesWhere IsNotOpen m call
HasCause m call no.Unanswered = NamesWhere IsUnanswered m call
HasCause m call no.RollingBack = NamesWhere IsRollingBack m call
HasCause m call no.NoMemory = Unit {0}
HasCause m call no.Redoing = Unit {0}
HasCause m call no.NotConnected = Unit {0}
HasCause m call no.Device = Unit {0}
HasCause m call no.NumbersSpent = Unit {0}
HasCause m call _ = ⊥

-- one case for each kind of line
abbrev pub Step : Machine → Line → Machine → Type 0
Step m (Begins t) n = IsAboveAll t m × (n ≡ with_txn m t blank)
Step m (Acts t o k) n =
    HasStatus m t Open × IsFree m t (changed_span o) × (t < k) × IsAboveAll k m
    × (n ≡ with_txn m t (record (m.txns t) {
      status = Waiting k o;
      last = Some (k, o);
      spans = changed_span o ∷ (m.txns t).spans;
    }))
Step m (TellsAnswer t a) n =
    (k : ℕ) × (o : Op) × HasStatus m t (Waiting k o) × (a ≡ answer_in (plain m.h) o)
    × (n ≡ record (with_status m t Open) {
      h = placed (record { number = k; txn = t; op = o; answer = a; crossed = false }) m.h;
    })
Step m (Reads t q) n =
    HasStatus m t Open × HasKeys (asked_range q) × IsFree m t (asked_span q)
    × (n ≡ with_txn m t (record (m.txns t) { status = Reading q; spans = asked_span q ∷ (m.txns t).spans }))
Step m (TellsRow t value) n =
    (k : Bytes) × HasStatus m t (Reading (OfKey k)) × (value ≡ get (plain m.h) k) × (n ≡ with_status m t Open)
Step m (TellsRows t rows) n =
    (lo : Bytes) × (hi : Option Bytes) × HasStatus m t (Reading (OfRange lo hi))
    × (rows ≡ rows_in (asked_range (OfRange lo hi)) (plain m.h)) × (n ≡ with_status m t Open)
Step m (Saves t s) n =
    HasStatus m t Open × (length (m.txns t).saves + 1 ≡ s) × (s ≤ 16)
    × (n ≡ with_txn m t (record (m.txns t) { saves = (m.txns t).saves ++ numbers_of t m.h ∷ [] }))
Step m (GoesBack t s) n =
    (kept : List ℕ) × HasStatus m t Open × (1 ≤ s) × (slice_get (m.txns t).saves (s - 1) ≡ Some kept)
    × (n ≡ record (with_txn m t (record (m.txns t) { status = Rolling (Some s); saves = take s (m.txns t).saves }))
    { h = cross (λ k. not (is_among k kept)) t m.h })
Step m (TellsBack t s) n = HasStatus m t (Rolling (Some s)) × (n ≡ with_status m t Open)
Step m (RollsBack t) n =
    HasStatus m t Open × (n ≡ record (with_status m t (Rolling None)) { h = cross (λ _. true) t m.h })
Step m (TellsRolledBack t) n = HasStatus m t (Rolling None) × (n ≡ with_txn m t (ended (m.txns t) Gone))
Step m (Commits t) n = HasStatus m t Open × (n ≡ with_status m t Committing)
Step m (TellsCommitted t) n = HasStatus m t Committing × (n ≡ with_txn m t (ended (m.txns t) Committed))
Step m Crashes n =
    (fell : ℕ → Bool) × (bound : ℕ) × ((t : ℕ) → Survives m bound t (m.txns t).status (n.txns t) (fell t))
    × (n.h ≡ map (fallen fell bound) m.h)
Step m (TellsLost t) n = HasStatus m t Losing × (n ≡ with_txn m t (ended (m.txns t) Gone))
Step m (IsRefused call refusal) n = HasCause m call refusal × (n ≡ m)

-- lines, one after another
abbrev pub Steps : Machine → List Line → Machine → Type 0
Steps m [] n = n ≡ m
Steps m (line ∷ lines) n = (mid : Machine) × Step m line mid × Steps mid lines n

-- nothing was done yet
abbrev pub fresh : Machine
fresh = record { h = []; txns = λ _. nobody }

-- there are states, from the empty one on, between which the lines are steps
abbrev pub IsRun : List Line → Type 0
IsRun lines = (last : Machine) × Steps fresh lines last
