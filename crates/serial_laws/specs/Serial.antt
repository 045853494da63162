-- The serial order: that in which transactions asked to commit.
use Rattle.std.specs.Prelude.{◌≡◌, ◌⊎◌, ℕ, ◌==◌, true, false, not, List, [], ◌∷◌, ◌++◌, Option, Some, filter, if◌then◌else◌}
use Rattle.std.specs.List.{AllByRecursion}
use Rattle.std.specs.FinMap.{empty, get}
use Rattle.record_key.specs.declared.op.Op.{Op}
use Rattle.record_key.specs.Table.{Bytes, Table, answer_in}
use Rattle.record_key.specs.Order.{rows_in}
use Rattle.history.specs.declared.record.Record.{Record}
use Rattle.history.specs.declared.record.Record.TheVariants as is
use Rattle.history.specs.Legal.{IsLegal}
use Rattle.history.specs.Values.{HasRightAnswers}
use Rattle.history.specs.History.{Entry, plain, entries_of, is_among}
use Rattle.history.specs.ListMachine.{OfKey, OfRange, asked_range, Machine, Status, Open, Waiting, Reading, Rolling, Committing, Committed, Line, Begins, TellsAnswer, TellsRow, TellsRows, Commits, HasStatus, is_live, AreDifferent}
use Rattle.simulation.specs.View.{standing, opened, StandsFor}
use Rattle.serial_laws.specs.Replay.{replay, AreTrue}

-- whoever asked to commit, the latest first; one that begins hasn't asked, though a crash may have lost another with
-- its number that had
abbrev pub asked_on : List ℕ → Line → List ℕ
asked_on ts (Commits t) = t ∷ ts
asked_on ts (Begins t) = filter (λ u. not (u == t)) ts
asked_on ts _ = ts

abbrev pub asked_after : List ℕ → List Line → List ℕ
asked_after ts [] = ts
asked_after ts (line ∷ lines) = asked_after (asked_on ts line) lines

-- of a run on a log those come first whose Commit stands there
abbrev pub committed_in : List Record → List ℕ
committed_in [] = []
committed_in (is.Commit t ∷ log) = t ∷ committed_in log
committed_in (r ∷ log) = committed_in log

abbrev pub asked : List Record → List Line → List ℕ
asked log lines = asked_after (committed_in log) lines

-- where a run begins: where a component stands that is opened on a legal log whose answers are right; on the empty
-- one nothing was done yet
pub record IsStart (log : List Record) (start : Machine) : Type 0 where
  pub legal : IsLegal log
  pub right : HasRightAnswers log
  pub stands : StandsFor (opened log) start

-- the entries of none of these
abbrev pub of_others : List ℕ → List Entry → List Entry
of_others [] h = h
of_others (t ∷ ts) h = filter (λ e. not (e.txn == t)) (of_others ts h)

-- the entries of one of these after those of another
abbrev pub in_turn : List ℕ → List Entry → List Entry
in_turn [] h = []
in_turn (t ∷ ts) h = entries_of t h ++ in_turn ts h

-- those that asked before it; all, where it hasn't asked
abbrev pub before : ℕ → List ℕ → List ℕ
before t [] = []
before t (u ∷ ts) = if u == t then ts else (if is_among t ts then before t ts else u ∷ ts)

-- the table that these leave in turn
abbrev pub table_before : ℕ → List ℕ → List Entry → Table
table_before t ts h = replay empty (in_turn (before t ts) (standing h))

-- it may still commit: it is open or committing, and doesn't roll back wholly
abbrev pub MayCommit : Status → Type 0
MayCommit Open = Unit {0}
MayCommit (Waiting n o) = Unit {0}
MayCommit (Reading q) = Unit {0}
MayCommit (Rolling (Some s)) = Unit {0}
MayCommit Committing = Unit {0}
MayCommit _ = ⊥

-- it may still commit, or has committed
abbrev pub Stands : Status → Type 0
Stands s = MayCommit s ⊎ (s ≡ Committed)

-- what the line tells the transaction is what this table has
abbrev pub TellsOf : Table → Machine → ℕ → Line → Type 0
TellsOf table m t (TellsAnswer u a) =
    u ≡ t → (k : ℕ) (o : Op) → HasStatus m t (Waiting k o) → a ≡ answer_in table o
TellsOf table m t (TellsRow u value) =
    u ≡ t → (k : Bytes) → HasStatus m t (Reading (OfKey k)) → value ≡ get table k
TellsOf table m t (TellsRows u rows) =
    u ≡ t → (lo : Bytes) (hi : Option Bytes) → HasStatus m t (Reading (OfRange lo hi))
    → rows ≡ rows_in (asked_range (OfRange lo hi)) table
TellsOf table m t _ = Unit {0}

-- the entries that stand, of one transaction after another in this order, and then those of who hasn't asked: each has
-- the answer that it would get then, and they leave the plain map; where nobody is live, those of the order alone do
pub record IsSerial (m : Machine) (ts : List ℕ) : Type 0 where
  pub different : AreDifferent ts
  pub committed : (t : ℕ) → HasStatus m t Committed → is_among t ts ≡ true
  pub told : AreTrue empty (of_others ts (standing m.h) ++ in_turn ts (standing m.h))
  pub leaves : replay empty (of_others ts (standing m.h) ++ in_turn ts (standing m.h)) ≡ plain m.h
  pub alone : AreTrue empty (in_turn ts (standing m.h))
  pub rest : ((t : ℕ) → is_live (m.txns t).status ≡ false) → replay empty (in_turn ts (standing m.h)) ≡ plain m.h
  pub others : AllByRecursion (λ e. is_live (m.txns e.txn).status ≡ true) (of_others ts (standing m.h))
