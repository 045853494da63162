-- What a node's clients called and were told since it was made, and what makes it serial.
use Rattle.std.specs.Prelude.{◌≡◌, ◌≢◌, ℕ, List, [], ◌∷◌, ◌++◌, Option, Some, None, filter}
use Rattle.std.specs.List.{AllByRecursion}
use Rattle.std.specs.FinMap.{empty}
use Rattle.record_key.specs.Table.{Bytes}
use Rattle.history.specs.declared.record.Record.{Record}
use Rattle.history.specs.History.{entries_of}
use Rattle.history.specs.ListMachine.{OfRange, Reading, Machine, Line, Begins, TellsRows, HasStatus, Step, Steps}
use Rattle.simulation.specs.View.{standing}
use Rattle.engine_history.specs.node_laws.specs.declared.event.Event.{Event}
use Rattle.engine_history.specs.node_laws.specs.declared.event.Out.{Out}
use Rattle.engine_history.specs.node_laws.specs.Node.{NodeView}
use Rattle.engine_history.specs.node_laws.specs.Simulation.{NodeStandsFor, lines_of}
use Rattle.serial_laws.specs.Replay.{replay, AreTrue}
use Rattle.serial_laws.specs.Alone.{Alone, starts, is_line_of, StepsAlone}
use Rattle.serial_laws.specs.Serial.{asked, IsStart, table_before, Stands, TellsOf, IsSerial}

-- the lines of an event with its output; one that it may not have has none, and no node gives such a one
abbrev pub lines_if : Option (List Line) → List Line
lines_if None = []
lines_if (Some lines) = lines

-- of events with their outputs, one after another
abbrev pub lines_in : List Event → List Out → List Line
lines_in [] os = []
lines_in (e ∷ es) [] = []
lines_in (e ∷ es) (o ∷ os) = lines_if (lines_of e o) ++ lines_in es os

-- these are the lines since the node was made on this log, an empty one where it was new: they lead from a machine for
-- which a component stands that is opened on the log to one that the node stands for
pub record HasTold (log : List Record) (lines : List Line) (w : NodeView) : Type 0 where
  pub start : Machine
  pub begins : IsStart log start
  pub now : Machine
  pub run : Steps start lines now
  pub stands : NodeStandsFor w now

-- each line, amid these, that tells a transaction that hasn't fallen since an answer, a row or rows tells it what the
-- table has that those leave in turn who asked to commit before it, with what of its own stood then
abbrev pub TellInTurn : List Record → Machine → List Line → Machine → Type 0
TellInTurn log start lines now =
    (earlier more : List Line) (line : Line) (m mid : Machine) (t : ℕ) → lines ≡ earlier ++ line ∷ more
    → Steps start earlier m → Step m line mid → Steps mid more now → AllByRecursion (λ l. l ≢ Begins t) more
    → Stands (now.txns t).status
    → TellsOf (replay (table_before t (asked log lines) now.h) (entries_of t (standing m.h))) m t line

-- amid these a transaction that reads a range again, and has the same entries that stand, is told the same rows
abbrev pub HaveNoPhantoms : Machine → List Line → Type 0
HaveNoPhantoms start lines =
    (earlier between more : List Line) (m mid k n : Machine) (t : ℕ) (lo : Bytes) (hi : Option Bytes)
    (rows again : List (Bytes × Bytes)) → lines ≡ earlier ++ TellsRows t rows ∷ between ++ TellsRows t again ∷ more
    → Steps start earlier m → HasStatus m t (Reading (OfRange lo hi)) → Step m (TellsRows t rows) mid
    → Steps mid between k → HasStatus k t (Reading (OfRange lo hi)) → Step k (TellsRows t again) n
    → AllByRecursion (λ l. l ≢ Begins t) between → entries_of t (standing k.h) ≡ entries_of t (standing m.h)
    → again ≡ rows

-- the lines of a transaction that hasn't fallen, from its Begin on, are a run of it alone on the table that those leave
-- in turn who asked to commit before it, and what that run leaves of it is what stands of it
abbrev pub RunAlone : List Record → Machine → List Line → Machine → Type 0
RunAlone log start lines now =
    (earlier more : List Line) (m mid : Machine) (t : ℕ) → lines ≡ earlier ++ Begins t ∷ more
    → Steps start earlier m → Step m (Begins t) mid → Steps mid more now → AllByRecursion (λ l. l ≢ Begins t) more
    → Stands (now.txns t).status
    → (x : Alone)
    × StepsAlone (table_before t (asked log lines) now.h) starts (filter (is_line_of t) more) x
    × (x.own ≡ entries_of t (standing now.h))

-- they are serial, in the order of the calls to commit: of the entries that stand each has the answer that it gets
-- after those before it, also one transaction after another in that order, with the same table; and every transaction
-- that hasn't fallen was told what it would be told alone on what those before it leave
pub record TellsSerially (log : List Record) (lines : List Line) (w : NodeView) : Type 0 where
  pub told : HasTold log lines w
  pub stand : AreTrue empty (standing told.now.h)
  pub serial : IsSerial told.now (asked log lines)
  pub in_turn : TellInTurn log told.start lines told.now
  pub again : HaveNoPhantoms told.start lines
  pub alone : RunAlone log told.start lines told.now
