-- The one spelling of each record of the transaction log, and which records have one.
use Rattle.std.specs.Prelude.{ℕ, List, [], ◌∷◌, ◌++◌, IfSome}
use Rattle.history.specs.declared.record.Record.{Record}
use Rattle.history.specs.declared.record.Record.TheVariants as is
use Rattle.codec.specs.Fields.{number, IsNumber, optional, op_bytes, IsOp, answer_bytes, IsAnswer}

-- the kind, and the fields in order
unfoldable pub record_bytes : Record → List ℕ
record_bytes is.Session = 1 ∷ []
record_bytes is.Begin = 2 ∷ []
record_bytes (is.Op txn prev o) = 3 ∷ number txn ++ (number prev ++ op_bytes o)
record_bytes (is.Answer of a) = 4 ∷ number of ++ answer_bytes a
record_bytes (is.Comp txn undoes next inverse) = 5 ∷ number txn
    ++ (number undoes ++ (number next ++ optional op_bytes inverse))
record_bytes (is.Commit txn) = 6 ∷ number txn
record_bytes (is.End txn) = 7 ∷ number txn
record_bytes (is.Checkpoint low) = 8 ∷ number low

-- every number in the record is below its bound
abbrev pub HasNumbers : Record → Type 0
HasNumbers is.Session = Unit {0}
HasNumbers is.Begin = Unit {0}
HasNumbers (is.Op txn prev o) = IsNumber txn × IsNumber prev
HasNumbers (is.Answer of a) = IsNumber of
HasNumbers (is.Comp txn undoes next inverse) = IsNumber txn × IsNumber undoes × IsNumber next
HasNumbers (is.Commit txn) = IsNumber txn
HasNumbers (is.End txn) = IsNumber txn
HasNumbers (is.Checkpoint low) = IsNumber low

-- what has a spelling
abbrev pub IsRecord : Record → Type 0
IsRecord is.Session = Unit {0}
IsRecord is.Begin = Unit {0}
IsRecord (is.Op txn prev o) = IsNumber txn × (IsNumber prev × IsOp o)
IsRecord (is.Answer of a) = IsNumber of × IsAnswer a
IsRecord (is.Comp txn undoes next inverse) = IsNumber txn × (IsNumber undoes × (IsNumber next × IfSome inverse IsOp))
IsRecord (is.Commit txn) = IsNumber txn
IsRecord (is.End txn) = IsNumber txn
IsRecord (is.Checkpoint low) = IsNumber low
