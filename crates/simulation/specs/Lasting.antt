-- What lasts. A transaction that has committed stays so, with its entries, whatever happens then; and before
-- that, what it was answered stays until it takes it back, or until it falls in a crash. So the value that is left
-- at a key stays there until somebody acts on the key.
use Rattle.std.specs.Prelude.{◌≡◌, ◌≢◌, ◌⊎◌, ℕ, ◌≤◌, false, true, List, [], ◌∷◌}
use Rattle.std.specs.List.{AllByRecursion}
use Rattle.std.specs.FinMap.{get}
use Rattle.record_key.specs.declared.op.Op.{Op}
use Rattle.record_key.specs.Table.{Bytes, key_of}
use Rattle.history.specs.History.{Entry, plain, entries_of}
use Rattle.history.specs.declared.record.Record.{Record}
use Rattle.history.specs.Log.{is_crossed, IsOpBy, hist}
use Rattle.history.specs.Legal.{IsLegal}
use Rattle.history.specs.ListMachine.{Machine, Txn, Waiting, Committed, Losing, Gone, Line, Begins, Acts, GoesBack, RollsBack, Commits, TellsCommitted, HasStatus, Step, Steps, fresh}
use Rattle.simulation.specs.View.{View, IsCommitAt, standing, opened, StandsFor}

-- it has committed, and its entries are these. That it has begun keeps others from its number.
pub record HasCommitted (m : Machine) (t : ℕ) (own : List Entry) : Type 0 where
  pub begun : (m.txns t).begun ≡ true
  pub status : HasStatus m t Committed
  pub own_is : entries_of t m.h ≡ own

-- whatever happens then, crashes included: no entry of it is crossed, made or lost
abbrev pub CommitsLast : Type 0
CommitsLast =
    (m n : Machine) (lines : List Line) (t : ℕ) (own : List Entry) → Steps m lines n → HasCommitted m t own
    → HasCommitted n t own

-- whoever isn't gone has begun
abbrev pub IsBegunOrGone : Txn → Type 0
IsBegunOrGone x = (x.begun ≡ true) ⊎ (x.status ≡ Gone)

abbrev pub EachHasBegun : Machine → Type 0
EachHasBegun m = (t : ℕ) → IsBegunOrGone (m.txns t)

-- so it is in every run, and in every machine that the component stands for
abbrev pub RunsHaveBegun : Type 0
RunsHaveBegun = (m : Machine) (lines : List Line) → Steps fresh lines m → EachHasBegun m

abbrev pub StoodForHaveBegun : Type 0
StoodForHaveBegun = (v : View) (m : Machine) → IsLegal v.log → StandsFor v m → EachHasBegun m

-- whose client is told so has committed, with the entries that it had
abbrev pub ToldIsCommitted : Type 0
ToldIsCommitted =
    (m n : Machine) (t : ℕ) → EachHasBegun m → Step m (TellsCommitted t) n → HasCommitted n t (entries_of t m.h)

-- and so has whose Commit record is stable: of its entries those stand that do in the log
abbrev pub StableIsCommitted : Type 0
StableIsCommitted =
    (v : View) (m : Machine) (t k : ℕ) → IsLegal v.log → StandsFor v m → IsCommitAt v.log t k → k ≤ v.stable
    → HasCommitted m t (entries_of t m.h) × (standing (entries_of t m.h) ≡ standing (entries_of t (hist v.log)))

-- from the call on its entries are those with which it commits, if it does
abbrev pub AskedIsCommitted : Type 0
AskedIsCommitted =
    (m mid n : Machine) (lines : List Line) (t : ℕ) → Step m (Commits t) mid → Steps mid lines n
    → AllByRecursion (λ line. line ≢ Begins t) lines → HasStatus n t Committed
    → entries_of t n.h ≡ entries_of t m.h

-- the line neither takes back what the transaction did nor begins another one with its number
abbrev pub TakesNothingBack : ℕ → Line → Type 0
TakesNothingBack t (Begins u) = t ≢ u
TakesNothingBack t (GoesBack u s) = t ≢ u
TakesNothingBack t (RollsBack u) = t ≢ u
TakesNothingBack t _ = Unit {0}

abbrev pub IsEntry : Entry → List Entry → Type 0
IsEntry e [] = ⊥
IsEntry e (f ∷ h) = (f ≡ e) ⊎ IsEntry e h

abbrev pub HasFallen : Machine → ℕ → Type 0
HasFallen m t = HasStatus m t Losing ⊎ HasStatus m t Gone

-- with such lines its entries stay as they are, unless it falls in a crash or had fallen
abbrev pub EntriesLast : Type 0
EntriesLast =
    (m n : Machine) (lines : List Line) (e : Entry) → Steps m lines n
    → AllByRecursion (TakesNothingBack e.txn) lines → IsEntry e m.h
    → IsEntry e n.h ⊎ HasFallen n e.txn

-- the entry is at another key, crossed, or of a transaction that has committed
abbrev pub IsOwned : Machine → Bytes → Entry → Type 0
IsOwned m k e = e.crossed ≡ false → key_of e.op ≡ k → ((m.txns e.txn).begun ≡ true) × HasStatus m e.txn Committed

-- all entries that stand at the key are of committed transactions, and nobody waits for an operation on it
pub record IsLastAt (m : Machine) (k : Bytes) : Type 0 where
  pub owners : AllByRecursion (IsOwned m k) m.h
  pub unasked : (t n : ℕ) (o : Op) → HasStatus m t (Waiting n o) → key_of o ≢ k

-- the line asks for no operation on the key
abbrev pub ActsElsewhere : Bytes → Line → Type 0
ActsElsewhere k (Acts t o n) = key_of o ≢ k
ActsElsewhere k _ = Unit {0}

-- then the plain map has there what it had, crashes included
abbrev pub ValuesLast : Type 0
ValuesLast =
    (m n : Machine) (lines : List Line) (k : Bytes) → Steps m lines n → AllByRecursion (ActsElsewhere k) lines
    → IsLastAt m k
    → get (plain n.h) k ≡ get (plain m.h) k

-- whoever did what isn't undone at the key loses, or has a stable Commit
abbrev pub IsSettledAt : View → Bytes → Type 0
IsSettledAt v k =
    (n t : ℕ) (o : Op) → IsOpBy v.log n t o → key_of o ≡ k → is_crossed v.log n ≡ false
    → (v.loses t ≡ true) ⊎ ((c : ℕ) × IsCommitAt v.log t c × (c ≤ v.stable))

-- then the key is at rest
abbrev pub AtRestByTheLog : Type 0
AtRestByTheLog =
    (v : View) (m : Machine) (k : Bytes) → IsLegal v.log → StandsFor v m → IsSettledAt v k → IsLastAt m k

-- so each is when the component is opened
abbrev pub OpenedIsAtRest : Type 0
OpenedIsAtRest = (log : List Record) (m : Machine) (k : Bytes) → IsLegal log → StandsFor (opened log) m → IsLastAt m k
