-- The record that undoes an answered operation of the log.
use Rattle.std.specs.Prelude.{◌≡◌, ℕ, ◌+◌, Option, Some, None, List, length, is_some}
use Rattle.history.specs.declared.record.Record.{Record}
use Rattle.history.specs.declared.record.Record.TheVariants as is
use Rattle.history.specs.Chains.{undo_from, prev_in}
use Rattle.history.specs.Log.{record_at, answer_of, op_in}
use Rattle.inverse.specs.Inverse.{inverse_of}
use Rattle.record_key.specs.declared.op.Op.{Op}
use Rattle.record_key.specs.declared.op.Answer.{Answer}
use Rattle.tc_log.specs.declared.compensated.Compensated.{Compensated}

-- the inverse of an operation that was answered, none where either is missing
abbrev pub inverse_by : Option (ℕ × Op) → Option Answer → Option Op
inverse_by (Some by) (Some a) = inverse_of by.1 a
inverse_by _ _ = None

-- that of the operation of a number: what its Comp record asks for
abbrev pub inverse_at : List Record → ℕ → Option Op
inverse_at log u = inverse_by (op_in (record_at log u)) (answer_of log u)

-- what is left to undo after it
abbrev pub next_at : List Record → ℕ → ℕ
next_at log u = undo_from (record_at log (prev_in (record_at log u))) (prev_in (record_at log u))

-- the record that undoes it for its transaction
abbrev pub comp_at : List Record → ℕ → ℕ → Record
comp_at log t u = is.Comp t u (next_at log u) (inverse_at log u)

-- what is told of that record, where it is the next one of the log
pub record IsToldOf (log : List Record) (u : ℕ) (told : Compensated) : Type 0 where
  pub number : told.number ≡ length log + 1
  pub next : told.next ≡ next_at log u
  pub asks : told.asks ≡ is_some (inverse_at log u)
