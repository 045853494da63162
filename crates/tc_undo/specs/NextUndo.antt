-- What a rollback writes next, and when it is done.
use Rattle.std.specs.Prelude.{◌≡◌, ℕ, ◌<◌, ◌≤◌, Bool, false, List, Option, Some, None, is_some}
use Rattle.record_key.specs.declared.op.Op.{Op}
use Rattle.record_key.specs.declared.op.Answer.{Answer}
use Rattle.history.specs.declared.record.Record.{Record}
use Rattle.history.specs.declared.record.Record.TheVariants as is
use Rattle.history.specs.Log.{record_at, answer_of, IsOpen, IsStepOf}
use Rattle.history.specs.Legal.{IsLegal, IsIdle, IsLatestOrNone, Stands, FitsComp}
use Rattle.tc_log.specs.LogView.{LogView, Appends}
use Rattle.tc_log.specs.declared.compensated.Compensated.{Compensated}
use Rattle.tc_undo.specs.declared.undo_chain.Chain.{Chain}
use Rattle.tc_undo.specs.declared.undo_chain.Next.{Next}
use Rattle.tc_undo.specs.declared.undo_chain.Next.TheVariants.{Write, Done}

-- the log is legal; the transaction is open there and waits for no answer, and this is its latest step
pub record MayUndo (log : List Record) (c : Chain) : Type 0 where
  pub legal : IsLegal log
  pub open_txn : IsOpen log c.txn
  pub idle : IsIdle log c.txn
  pub last : IsLatestOrNone (IsStepOf log c.txn) c.last

-- the compensation of an operation above the bound, which fits the log: so it names the transaction's latest operation
-- that none names, and its undo-next is the latest earlier one
pub record Compensates (log : List Record) (t above : ℕ) (r : Record) : Type 0 where
  pub undoes : ℕ
  pub next : ℕ
  pub inverse : Option Op
  pub is : r ≡ is.Comp t undoes next inverse
  pub above_bound : above < undoes
  pub fits : FitsComp log t undoes next inverse

-- no operation of the transaction that none names is above the bound
abbrev pub IsUndone : List Record → ℕ → ℕ → Type 0
IsUndone log t above = (n : ℕ) → Stands log t n → n ≤ above

abbrev pub IsNextUndo : List Record → ℕ → ℕ → Next → Type 0
IsNextUndo log t above (Write r) = Compensates log t above r
IsNextUndo log t above Done = IsUndone log t above

-- an answered operation has this number
pub record IsUndoable (log : List Record) (u : ℕ) : Type 0 where
  pub txn : ℕ
  pub prev : ℕ
  pub op : Op
  pub answer : Answer
  pub is : record_at log u ≡ Some (is.Op txn prev op)
  pub answered : answer_of log u ≡ Some answer

-- what a compensation leaves to undo, and whether it asks for anything
abbrev pub undo_next_in : Record → ℕ
undo_next_in (is.Comp txn undoes next inverse) = next
undo_next_in _ = 0

abbrev pub has_inverse : Record → Bool
has_inverse (is.Comp txn undoes next inverse) = is_some inverse
has_inverse _ = false

-- an operation above the bound is left
pub record IsLeft (log : List Record) (t above : ℕ) : Type 0 where
  pub compensation : Record
  pub next : Compensates log t above compensation

-- the compensation of the latest one was appended, and this is told of it
pub record Undoes (old : LogView) (t above : ℕ) (told : Compensated) (new : LogView) : Type 0 where
  pub compensation : Record
  pub next : Compensates old.records t above compensation
  pub appended : Appends old compensation told.number new
  pub undo_next : told.next ≡ undo_next_in compensation
  pub asks : told.asks ≡ has_inverse compensation

-- none was, where none is left
abbrev pub UndoesNext : LogView → ℕ → ℕ → Option Compensated → LogView → Type 0
UndoesNext old t above (Some told) new = Undoes old t above told new
UndoesNext old t above None new = IsUndone old.records t above × (new ≡ old)
