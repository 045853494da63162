-- A transaction log: the list of its records, the newest first. A record's number is how many there are up
-- to it, from 1.
use Rattle.std.specs.Prelude.{◌≡◌, ℕ, ◌+◌, ◌==◌, ◌||◌, Bool, false, List, [], ◌∷◌, Option, Some, None, length, if◌then◌else◌}
use Rattle.record_key.specs.declared.op.Op.{Op}
use Rattle.record_key.specs.declared.op.Answer.{Answer}
use Rattle.history.specs.declared.record.Record.{Record}
use Rattle.history.specs.declared.record.Record.TheVariants as is
use Rattle.history.specs.History.{Entry}

-- the record of a number
abbrev pub record_at : List Record → ℕ → Option Record
record_at [] n = None
record_at (r ∷ before) n = if n == length before + 1 then Some r else record_at before n

-- the log as it was just before the record of this number
abbrev pub before : List Record → ℕ → List Record
before [] n = []
before (r ∷ rest) n = if n == length rest + 1 then rest else before rest n

-- the answer of an operation, if its Answer record stands
abbrev pub answer_of : List Record → ℕ → Option Answer
answer_of [] n = None
answer_of (is.Answer of answer ∷ before) n = if n == of then Some answer else answer_of before n
answer_of (r ∷ before) n = answer_of before n

-- crossed: a compensation names it
abbrev pub is_crossed : List Record → ℕ → Bool
is_crossed [] n = false
is_crossed (is.Comp txn undoes next inverse ∷ before) n = (n == undoes) || is_crossed before n
is_crossed (r ∷ before) n = is_crossed before n

-- a Commit or an End of the transaction stands
abbrev pub has_ended : List Record → ℕ → Bool
has_ended [] t = false
has_ended (is.Commit txn ∷ before) t = (t == txn) || has_ended before t
has_ended (is.End txn ∷ before) t = (t == txn) || has_ended before t
has_ended (r ∷ before) t = has_ended before t

-- from its Begin record to its Commit or End
pub record IsOpen (log : List Record) (t : ℕ) : Type 0 where
  pub begun : record_at log t ≡ Some is.Begin
  pub goes_on : has_ended log t ≡ false

-- the operation that a record has the data component do: an Op's own, a compensation's inverse
abbrev pub request_of : Record → Option Op
request_of (is.Op txn prev op) = Some op
request_of (is.Comp txn undoes next inverse) = inverse
request_of _ = None

abbrev pub request_in : Option Record → Option Op
request_in None = None
request_in (Some r) = request_of r

-- the record of this number has this done
abbrev pub Requests : List Record → ℕ → Op → Type 0
Requests log n o = request_in (record_at log n) ≡ Some o

-- it asks for something
pub record HasRequest (log : List Record) (n : ℕ) : Type 0 where
  pub op : Op
  pub requested : Requests log n op

-- the transaction whose Op or Comp record it is
abbrev pub step_of : Record → Option ℕ
step_of (is.Op txn prev op) = Some txn
step_of (is.Comp txn undoes next inverse) = Some txn
step_of _ = None

abbrev pub step_in : Option Record → Option ℕ
step_in None = None
step_in (Some r) = step_of r

abbrev pub IsStepOf : List Record → ℕ → ℕ → Type 0
IsStepOf log t n = step_in (record_at log n) ≡ Some t

-- the transaction's operation of this number, with its operation
abbrev pub op_of : Record → Option (ℕ × Op)
op_of (is.Op txn prev op) = Some (txn, op)
op_of _ = None

abbrev pub op_in : Option Record → Option (ℕ × Op)
op_in None = None
op_in (Some r) = op_of r

abbrev pub IsOpBy : List Record → ℕ → ℕ → Op → Type 0
IsOpBy log n t o = op_in (record_at log n) ≡ Some (t, o)

-- the history of a log: its answered operations, crossed where a compensation names them. The first
-- argument is the whole log, the second what is left to read of it.
abbrev pub entry_with : List Record → ℕ → ℕ → Op → Option Answer → List Entry → List Entry
entry_with log n t o None h = h
entry_with log n t o (Some a) h = record { number = n; txn = t; op = o; answer = a; crossed = is_crossed log n } ∷ h

abbrev pub hist_in : List Record → List Record → List Entry
hist_in log [] = []
hist_in log (is.Op txn prev op ∷ before) =
    entry_with log (length before + 1) txn op (answer_of log (length before + 1)) (hist_in log before)
hist_in log (r ∷ before) = hist_in log before

abbrev pub hist : List Record → List Entry
hist log = hist_in log log
