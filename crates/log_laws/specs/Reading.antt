-- What the slow checker asks of one number of a log.
use Rattle.std.specs.Prelude.{◌≡◌, ◌≢◌, ℕ, ◌≤◌, ◌&&◌, false, List, IsSome, IsNone}
use Rattle.record_key.specs.declared.op.Op.{Op}
use Rattle.record_key.specs.Table.{key_of, is_add}
use Rattle.history.specs.declared.record.Record.{Record}
use Rattle.history.specs.Log.{record_at, answer_of, request_in, IsOpen, IsStepOf, IsOpBy}

-- a request of the transaction that has no answer
pub record Waits (log : List Record) (t n : ℕ) : Type 0 where
  pub step : IsStepOf log t n
  pub requested : IsSome (request_in (record_at log n))
  pub unanswered : IsNone (answer_of log n)

-- an operation on the operation's key by another transaction that is open, and they aren't both Adds
pub record Blocks (log : List Record) (t : ℕ) (o : Op) (n : ℕ) : Type 0 where
  pub txn : ℕ
  pub op : Op
  pub is_op : IsOpBy log n txn op
  pub same_key : key_of op ≡ key_of o
  pub apart : (is_add o && is_add op) ≡ false
  pub is_open : IsOpen log txn
  pub other : txn ≢ t

-- a request up to this number that has no answer
pub record LacksAnswer (log : List Record) (low n : ℕ) : Type 0 where
  pub below : n ≤ low
  pub requested : IsSome (request_in (record_at log n))
  pub unanswered : IsNone (answer_of log n)
