-- What every run of the list machine keeps of what clients were told, wherever it begins.
use Rattle.std.specs.Prelude.{◌≡◌, ◌≢◌, ℕ, List, [], ◌∷◌, ◌++◌, Option, filter}
use Rattle.std.specs.List.{AllByRecursion}
use Rattle.std.specs.FinMap.{empty}
use Rattle.record_key.specs.Table.{Bytes}
use Rattle.history.specs.declared.record.Record.{Record}
use Rattle.history.specs.History.{plain, entries_of}
use Rattle.history.specs.ListMachine.{OfRange, Reading, Machine, Line, Begins, TellsRows, HasStatus, Step, Steps, fresh}
use Rattle.simulation.specs.View.{standing}
use Rattle.serial_laws.specs.Replay.{replay, AreTrue}
use Rattle.serial_laws.specs.Alone.{Alone, starts, is_line_of, StepsAlone}
use Rattle.serial_laws.specs.Serial.{asked, IsStart, table_before, Stands, TellsOf, IsSerial}

-- a run may begin where nothing was done
abbrev pub FreshIsAStart : Type 0
FreshIsAStart = IsStart [] fresh

-- of the entries that stand each has the answer that its operation gets in the plain map of those before it
abbrev pub AnswersStand : Type 0
AnswersStand =
    (log : List Record) (start m : Machine) (lines : List Line) → IsStart log start → Steps start lines m
    → AreTrue empty (standing m.h) × (replay empty (standing m.h) ≡ plain m.h)

-- and one transaction may come after another, in the order in which they asked to commit
abbrev pub RunsAreSerial : Type 0
RunsAreSerial =
    (log : List Record) (start m : Machine) (lines : List Line) → IsStart log start → Steps start lines m
    → IsSerial m (asked log lines)

-- and what a transaction is told, by an answer or a read, is what it would be told if all that asked to commit before
-- it had gone before, and nobody else: as long as it hasn't fallen (it is neither rolled back wholly nor lost), and so
-- forever once it has committed
abbrev pub ToldIsSerial : Type 0
ToldIsSerial =
    (log : List Record) (start m mid n : Machine) (lines more : List Line) (line : Line) (t : ℕ) → IsStart log start
    → Steps start lines m → Step m line mid → Steps mid more n → AllByRecursion (λ l. l ≢ Begins t) more
    → Stands (n.txns t).status
    → TellsOf (replay (table_before t (asked log (lines ++ line ∷ more)) n.h) (entries_of t (standing m.h))) m t line

-- so a transaction that reads a range again, and has the same entries that stand, is told the same rows
abbrev pub ReadsRepeat : Type 0
ReadsRepeat =
    (log : List Record) (start m mid k n : Machine) (lines more : List Line) (t : ℕ) (lo : Bytes) (hi : Option Bytes)
    (rows again : List (Bytes × Bytes)) → IsStart log start → Steps start lines m
    → HasStatus m t (Reading (OfRange lo hi)) → Step m (TellsRows t rows) mid → Steps mid more k
    → HasStatus k t (Reading (OfRange lo hi)) → Step k (TellsRows t again) n
    → AllByRecursion (λ l. l ≢ Begins t) more → entries_of t (standing k.h) ≡ entries_of t (standing m.h)
    → again ≡ rows

-- so the lines of a transaction that hasn't fallen, from its Begin on, are a run of it alone, on the table that those
-- leave that asked to commit before it; and what stands of it at the end is what that run leaves
abbrev pub RunsAlone : Type 0
RunsAlone =
    (log : List Record) (start m mid n : Machine) (lines more : List Line) (t : ℕ) → IsStart log start
    → Steps start lines m → Step m (Begins t) mid → Steps mid more n → AllByRecursion (λ l. l ≢ Begins t) more
    → Stands (n.txns t).status
    → (x : Alone)
    × StepsAlone (table_before t (asked log (lines ++ Begins t ∷ more)) n.h) starts (filter (is_line_of t) more) x
    × (x.own ≡ entries_of t (standing n.h))
