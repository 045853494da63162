-- What restart and rollback rest on: compensations take the operations of a transaction latest first, each
-- once (ARIES), and nobody else touches a key while its transaction is open (strict two-phase locking), but for Adds.
use Rattle.std.specs.Prelude.{◌≡◌, ◌≢◌, ◌⊎◌, ℕ, ◌+◌, ◌<◌, ◌==◌, Bool, true, false, List, [], ◌∷◌, Option, Some, None, IsSome, length, if◌then◌else◌}
use Rattle.record_key.specs.declared.op.Op.{Op}
use Rattle.record_key.specs.Table.{key_of, is_add}
use Rattle.history.specs.declared.record.Record.{Record}
use Rattle.history.specs.declared.record.Record.TheVariants as is
use Rattle.history.specs.Log.{record_at, before, answer_of, op_in, Requests, IsStepOf, IsOpBy}
use Rattle.history.specs.Legal.{IsLatest, IsLatestOrNone, Stands}

-- each compensation names its transaction's latest operation that none before it names, so none twice,
-- and its undo-next is the latest earlier one that is left
abbrev pub IsWellChained : List Record → Type 0
IsWellChained [] = Unit {0}
IsWellChained (is.Comp t u x i ∷ log) =
    IsLatest (Stands log t) u × IsLatestOrNone (λ n. Stands log t n × (n < u)) x × IsWellChained log
IsWellChained (r ∷ log) = IsWellChained log

-- what is left to undo from a step on: the step itself where it is an operation, else its undo-next
abbrev pub undo_from : Option Record → ℕ → ℕ
undo_from (Some (is.Comp t u x i)) n = x
undo_from (Some (is.Op t p o)) n = n
undo_from _ n = 0

-- the transaction's step before an operation
abbrev pub prev_in : Option Record → ℕ
prev_in (Some (is.Op t p o)) = p
prev_in _ = 0

-- a Commit or End of the transaction stands at this number
abbrev pub IsEndOf : List Record → ℕ → ℕ → Type 0
IsEndOf log t n = (record_at log n ≡ Some (is.Commit t)) ⊎ (record_at log n ≡ Some (is.End t))

-- the transaction ended between two numbers
pub record EndsBetween (log : List Record) (t n m : ℕ) : Type 0 where
  pub end : ℕ
  pub is : IsEndOf log t end
  pub after : n < end
  pub before : end < m

-- whether an operation is an Add, where there is one
abbrev pub is_add_by : Option (ℕ × Op) → Bool
is_add_by None = false
is_add_by (Some by) = is_add by.1

-- whether a record does an Add, or undoes one
abbrev pub adds_next : List Record → Record → Bool
adds_next log (is.Op t p o) = is_add o
adds_next log (is.Comp t u x i) = is_add_by (op_in (record_at log u))
adds_next log _ = false

-- the same of the record of a number
abbrev pub adds_at : List Record → ℕ → Bool
adds_at [] n = false
adds_at (r ∷ log) n = if n == length log + 1 then adds_next log r else adds_at log n

-- both do, which is when two transactions may have them on a key at a time
abbrev pub BothAdd : List Record → ℕ → ℕ → Type 0
BothAdd log n m = (adds_at log n ≡ true) × (adds_at log m ≡ true)

-- between an operation and a later request of another transaction on its key, its transaction ended, unless both add
abbrev pub IsStrict : List Record → Type 0
IsStrict log =
    (n m t u : ℕ) (o q : Op) → IsOpBy log n t o → n < m → IsStepOf log u m → Requests log m q → key_of q ≡ key_of o
    → u ≢ t
    → BothAdd log n m ⊎ EndsBetween log t n m

-- of two requests on a key the earlier is answered before the later one stands, unless both add
abbrev pub IsOneAtATime : List Record → Type 0
IsOneAtATime log =
    (n m : ℕ) (o q : Op) → Requests log n o → n < m → Requests log m q → key_of q ≡ key_of o
    → BothAdd log n m ⊎ IsSome (answer_of (before log m) n)
