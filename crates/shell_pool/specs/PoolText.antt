-- The exact bytes of what clients read and left.
use Rattle.std.specs.Prelude.{◌≡◌, ◌⊎◌, ℕ, ◌+◌, List, [], ◌∷◌, ◌++◌, Option, Some, None, codes, decimal, length}
use Rattle.std.specs.List.{concat}
use Rattle.record_key.specs.declared.refusal.Refusal.{Refusal}
use Rattle.record_key.specs.declared.refusal.Refusal.TheVariants.{NotConnected}
use Rattle.record_key.specs.Rows.{Row}
use Rattle.record_key.specs.Table.{Bytes}
use Rattle.shell_scripts.specs.Printed.{refusal_line, shown_if}
use Rattle.shell_scripts.specs.Stored.{table_text}
use Rattle.shell_scripts.specs.Text.{WritesAlone}

-- the value that a client read, a dash where there is no record
abbrev pub read_line : ℕ → Option Bytes → List ℕ
read_line client value =
    concat (codes "session " ∷ decimal client ∷ codes " read " ∷ shown_if value ∷ codes "\n" ∷ [])

-- a line of each client, the first of them numbered one more than this
abbrev pub reads_text : ℕ → List (Option Bytes) → List ℕ
reads_text before [] = []
reads_text before (value ∷ values) = read_line (before + 1) value ++ reads_text (before + 1) values

-- the records of a data component that runs, or that it is down
abbrev pub records_text : Option (List Row) → List ℕ
records_text (Some rows) = table_text rows
records_text None = refusal_line NotConnected

abbrev pub pool_text : List (Option Bytes) → Option (List Row) → List ℕ
pool_text values rows = reads_text 0 values ++ records_text rows

-- what so many clients read, each in its turn, and the records that they left
pub record WritesReads (clients : ℕ) (old new : Option (List ℕ)) (status : ℕ) : Type 0 where
  pub values : List (Option Bytes)
  pub count : length values ≡ clients
  pub rows : Option (List Row)
  pub alone : WritesAlone (pool_text values rows) 0 old new status

-- or why they couldn't
pub record WritesRefusal (old new : Option (List ℕ)) (status : ℕ) : Type 0 where
  pub refusal : Refusal
  pub alone : WritesAlone (refusal_line refusal) 3 old new status

abbrev pub WritesPool : ℕ → Option (List ℕ) → Option (List ℕ) → ℕ → Type 0
WritesPool clients old new status = WritesReads clients old new status ⊎ WritesRefusal old new status
