-- When a record fits the records before it, and so which logs are legal.
use Rattle.std.specs.Prelude.{◌≡◌, ◌⊎◌, ℕ, ◌<◌, ◌≤◌, false, List, [], ◌∷◌, Option, Some, None, IsSome, length}
use Rattle.record_key.specs.declared.op.Op.{Op}
use Rattle.record_key.specs.declared.op.Answer.{Answer}
use Rattle.record_key.specs.Table.{key_of, AreAdds}
use Rattle.inverse.specs.Inverse.{inverse_of}
use Rattle.history.specs.declared.record.Record.{Record}
use Rattle.history.specs.declared.record.Record.TheVariants as is
use Rattle.history.specs.Log.{answer_of, is_crossed, IsOpen, Requests, IsStepOf, IsOpBy}

-- the greatest number of a kind
pub record IsLatest (P : ℕ → Type 0) (n : ℕ) : Type 0 where
  pub is : P n
  pub greatest : (m : ℕ) → P m → m ≤ n

-- the greatest, or 0 where there is none
abbrev pub IsLatestOrNone : (ℕ → Type 0) → ℕ → Type 0
IsLatestOrNone P n = IsLatest P n ⊎ ((n ≡ 0) × ((m : ℕ) → P m → ⊥))

-- an operation of the transaction that no compensation names
pub record Stands (log : List Record) (t n : ℕ) : Type 0 where
  pub op : Op
  pub is : IsOpBy log n t op
  pub uncrossed : is_crossed log n ≡ false

-- no request of the transaction waits for its answer
abbrev pub IsIdle : List Record → ℕ → Type 0
IsIdle log t = (n : ℕ) (o : Op) → IsStepOf log t n → Requests log n o → IsSome (answer_of log n)

-- no other open transaction has an operation on the operation's key, undone or not, unless both are Adds
abbrev pub IsKeyFree : List Record → ℕ → Op → Type 0
IsKeyFree log t o =
    (n u : ℕ) (q : Op) → IsOpBy log n u q → key_of q ≡ key_of o → IsOpen log u → (u ≡ t) ⊎ AreAdds o q

-- the inverse of an answered operation
pub record Inverts (log : List Record) (u : ℕ) (i : Option Op) : Type 0 where
  pub txn : ℕ
  pub op : Op
  pub answer : Answer
  pub is : IsOpBy log u txn op
  pub answered : answer_of log u ≡ Some answer
  pub inverse : i ≡ inverse_of op answer

-- an operation: its transaction is open and idle, prev is its latest step, and nobody else open has changed the key,
-- but for Adds where it is one
pub record FitsOp (log : List Record) (t p : ℕ) (o : Op) : Type 0 where
  pub open_txn : IsOpen log t
  pub idle : IsIdle log t
  pub prev : IsLatestOrNone (IsStepOf log t) p
  pub free : IsKeyFree log t o

-- an answer: to a request that has none yet
pub record FitsAnswer (log : List Record) (n : ℕ) : Type 0 where
  pub op : Op
  pub requested : Requests log n op
  pub unanswered : answer_of log n ≡ None

-- a compensation: of its transaction's latest operation that stands, with its inverse; undo-next is the one before
pub record FitsComp (log : List Record) (t u x : ℕ) (i : Option Op) : Type 0 where
  pub open_txn : IsOpen log t
  pub idle : IsIdle log t
  pub latest : IsLatest (Stands log t) u
  pub next : IsLatestOrNone (λ n. Stands log t n × (n < u)) x
  pub inverse : Inverts log u i

-- a commit: of an open and idle transaction
pub record FitsCommit (log : List Record) (t : ℕ) : Type 0 where
  pub open_txn : IsOpen log t
  pub idle : IsIdle log t

-- an end: the same, of which no operation stands
pub record FitsEnd (log : List Record) (t : ℕ) : Type 0 where
  pub open_txn : IsOpen log t
  pub idle : IsIdle log t
  pub undone : (n : ℕ) → Stands log t n → ⊥

-- every request up to this number has its answer
abbrev pub AreAnswered : List Record → ℕ → Type 0
AreAnswered log low = (n : ℕ) (o : Op) → n ≤ low → Requests log n o → IsSome (answer_of log n)

-- a checkpoint: up to a number that the log has reached, and up to which all is answered
pub record FitsCheckpoint (log : List Record) (low : ℕ) : Type 0 where
  pub within : low ≤ length log
  pub answered : AreAnswered log low

-- the record may follow the log
abbrev pub Fits : List Record → Record → Type 0
Fits log is.Session = Unit {0}
Fits log is.Begin = Unit {0}
Fits log (is.Op t p o) = FitsOp log t p o
Fits log (is.Answer n a) = FitsAnswer log n
Fits log (is.Comp t u x i) = FitsComp log t u x i
Fits log (is.Commit t) = FitsCommit log t
Fits log (is.End t) = FitsEnd log t
Fits log (is.Checkpoint l) = FitsCheckpoint log l

-- each record fits those before it
abbrev pub IsLegal : List Record → Type 0
IsLegal [] = Unit {0}
IsLegal (r ∷ log) = Fits log r × IsLegal log
