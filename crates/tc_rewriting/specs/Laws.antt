-- What is true of a log that rows were written into.
use Rattle.std.specs.Prelude.{◌≡◌, ℕ, ◌+◌, false, List, [], None, length}
use Rattle.std.specs.Option.{option_or}
use Rattle.std.specs.FinMap.{get}
use Rattle.record_key.specs.Rows.{Row, table_of, AreInOrder}
use Rattle.record_key.specs.Table.{Bytes, Table}
use Rattle.history.specs.declared.record.Record.{Record}
use Rattle.history.specs.History.{plain}
use Rattle.history.specs.ListMachine.{is_live}
use Rattle.history.specs.Log.{hist}
use Rattle.history.specs.Values.{value_on}
use Rattle.simulation.specs.Reading.{machine_read, txn_read}
use Rattle.tc_rewriting.specs.Written.{with_row, written, AllHaveEnded, IsWriting, value_in, Lacks, count_with}

-- a transaction that is alone may insert a row that isn't there
abbrev pub InsertsFit : Type 0
InsertsFit =
    (log : List Record) (t prev : ℕ) (row : Row) → IsWriting log t prev → value_on row.0 log ≡ None
    → IsWriting (with_row t prev row log) t (length log + 1)

-- a log into which rows were written that it lacked: all have ended in it, and it has the rows
pub record HasWritten (log : List Record) (rows : List Row) (new : List Record) : Type 0 where
  pub ended : AllHaveEnded new
  pub values : (k : Bytes) → value_on k new ≡ option_or (value_in rows k) (value_on k log)
  pub count : length new ≡ count_with (length log) rows

abbrev pub WritesAreRight : Type 0
WritesAreRight =
    (log : List Record) (rows : List Row) → AllHaveEnded log → AreInOrder rows → Lacks log rows
    → HasWritten log rows (written rows log)

-- all have ended in the log, and what it tells of is just this table: its values, the plain map of its history, and that
-- of the list machine that is read off it, in which nobody is live
pub record TellsOf (table : Table) (log : List Record) : Type 0 where
  pub ended : AllHaveEnded log
  pub values : (k : Bytes) → value_on k log ≡ get table k
  pub history : plain (hist log) ≡ table
  pub machine : plain (machine_read log).h ≡ table
  pub over : (t : ℕ) → is_live (txn_read log t).status ≡ false

-- rows that are written from nothing tell of their table
abbrev pub RewritingKeepsTheTable : Type 0
RewritingKeepsTheTable = (rows : List Row) → AreInOrder rows → TellsOf (table_of rows) (written rows [])
