-- The record that undoes an answered operation, spelled from the bytes of both.
use Rattle.std.specs.Prelude.{◌≡◌, ℕ, List, ◌∷◌, ◌++◌, drop, Option, Some, None}
use Rattle.history.specs.declared.record.Record.{Record}
use Rattle.history.specs.declared.record.Record.TheVariants as is
use Rattle.inverse.specs.Inverse.{inverse_of}
use Rattle.record_key.specs.declared.op.Op.{Op}
use Rattle.record_key.specs.declared.op.Answer.{Answer}
use Rattle.codec.specs.declared.undoing.CompNumbers.{CompNumbers}
use Rattle.codec.specs.Fields.{number}
use Rattle.codec.specs.Frames.{frame}
use Rattle.codec.specs.Records.{record_bytes, IsRecord}

-- what an Answer record holds
abbrev pub answer_held : Record → Option Answer
answer_held (is.Answer of a) = Some a
answer_held _ = None

-- the frame of a record begins at a place
pub record StandsAt (bytes : List ℕ) (place : ℕ) (r : Record) : Type 0 where
  pub fits : IsRecord r
  pub rest : List ℕ
  pub there : drop place bytes ≡ frame (record_bytes r) ++ rest

-- those of an operation's record and of its answer's begin at these places
pub record AreAnsweredAt (bytes : List ℕ) (op_at answer_at : ℕ) (o : Op) (a : Answer) : Type 0 where
  pub txn : ℕ
  pub prev : ℕ
  pub of : ℕ
  pub op : StandsAt bytes op_at (is.Op txn prev o)
  pub answer : StandsAt bytes answer_at (is.Answer of a)

-- the body of a Comp record, whose inverse is spelled so
abbrev pub comp_bytes : CompNumbers → List ℕ → List ℕ
comp_bytes n inverse = 5 ∷ number n.txn ++ (number n.undoes ++ (number n.next ++ inverse))

-- the record that undoes an operation which was answered so
abbrev pub comp_of : CompNumbers → Op → Answer → Record
comp_of n o a = is.Comp n.txn n.undoes n.next (inverse_of o a)
