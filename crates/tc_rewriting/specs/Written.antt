-- The log that writes rows into a table that has no record of their keys: one transaction inserts them, is answered, and
-- commits.
use Rattle.std.specs.Prelude.{◌≡◌, ◌⊎◌, ℕ, ◌+◌, ◌*◌, ◌≤◌, ◌^◌, List, [], ◌∷◌, Option, None, IsSome, length}
use Rattle.std.specs.FinMap.{find}
use Rattle.record_key.specs.declared.op.Op.{Op}
use Rattle.record_key.specs.declared.op.Op.TheVariants.{Insert}
use Rattle.record_key.specs.declared.op.Answer.TheVariants.{Inserted}
use Rattle.record_key.specs.declared.refusal.Refusal.{Refusal}
use Rattle.record_key.specs.declared.refusal.Refusal.TheVariants.{NoMemory, Device, NumbersSpent}
use Rattle.record_key.specs.Laws.{key_cmp}
use Rattle.record_key.specs.Rows.{Row}
use Rattle.record_key.specs.Table.{Bytes}
use Rattle.history.specs.declared.record.Record.{Record}
use Rattle.history.specs.declared.record.Record.TheVariants as is
use Rattle.history.specs.Legal.{IsLegal, IsLatestOrNone}
use Rattle.history.specs.Log.{answer_of, IsOpen, IsStepOf, Requests}
use Rattle.history.specs.Values.{value_on, HasRightAnswers}

-- the transaction has inserted the row, after its step of this number, 0 if none, and is answered
abbrev pub with_row : ℕ → ℕ → Row → List Record → List Record
with_row t prev row log = is.Answer (length log + 1) Inserted ∷ is.Op t prev (Insert row.0 row.1) ∷ log

-- it has inserted rows, the first one first
abbrev pub with_rows : ℕ → ℕ → List Row → List Record → List Record
with_rows t prev [] log = log
with_rows t prev (row ∷ rows) log = with_rows t (length log + 1) rows (with_row t prev row log)

-- a transaction of its own has, and has committed
abbrev pub written : List Row → List Record → List Record
written rows log = is.Commit (length log + 1) ∷ with_rows (length log + 1) 0 rows (is.Begin ∷ log)

-- every request has its answer
abbrev pub AllAreAnswered : List Record → Type 0
AllAreAnswered log = (n : ℕ) (o : Op) → Requests log n o → IsSome (answer_of log n)

-- a legal log with right answers, in which nobody waits and every transaction has ended
pub record AllHaveEnded (log : List Record) : Type 0 where
  pub legal : IsLegal log
  pub right : HasRightAnswers log
  pub answered : AllAreAnswered log
  pub ended : (t : ℕ) → IsOpen log t → ⊥

-- the same, but for one transaction, whose last step this is, 0 if it has none
pub record IsWriting (log : List Record) (t prev : ℕ) : Type 0 where
  pub legal : IsLegal log
  pub right : HasRightAnswers log
  pub answered : AllAreAnswered log
  pub is_open : IsOpen log t
  pub alone : (u : ℕ) → IsOpen log u → u ≡ t
  pub latest : IsLatestOrNone (IsStepOf log t) prev

-- the value of a key among rows
abbrev pub value_in : List Row → Bytes → Option Bytes
value_in rows k = find key_cmp k rows

-- the log leaves nothing at their keys
abbrev pub Lacks : List Record → List Row → Type 0
Lacks log rows = (k : Bytes) → IsSome (value_in rows k) → value_on k log ≡ None

-- why rows aren't written: memory or a call of the device was refused, or the last of so many records has no number
abbrev pub RefusesRecords : ℕ → Refusal → Type 0
RefusesRecords count r = (r ≡ NoMemory) ⊎ (r ≡ Device) ⊎ ((r ≡ NumbersSpent) × (2 ^ 48 ≤ count))

-- how many records write rows after so many others
abbrev pub count_with : ℕ → List Row → ℕ
count_with count rows = count + 2 * length rows + 2
