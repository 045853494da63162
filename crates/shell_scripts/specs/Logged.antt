-- The exact bytes of the log.
use Rattle.std.specs.Prelude.{ℕ, zero, suc, List, [], ◌∷◌, ◌++◌, Option, Some, None, codes, decimal, length}
use Rattle.std.specs.List.{concat}
use Rattle.record_key.specs.declared.op.Op.{Op}
use Rattle.record_key.specs.declared.op.Op.TheVariants as op
use Rattle.history.specs.declared.record.Record.{Record}
use Rattle.history.specs.declared.record.Record.TheVariants as record-is
use Rattle.history.specs.Log.{record_at}
use Rattle.shell_scripts.specs.Printed.{shown, worded, numbered}
use Rattle.shell_scripts.specs.Answers.{answered_line}

-- a write of a value, and the end of its line
abbrev pub write_text : List ℕ → List ℕ → List ℕ → List ℕ
write_text name key value = concat (name ∷ shown key ∷ codes " " ∷ shown value ∷ codes "\n" ∷ [])

-- an increment, and the end of its line
abbrev pub add_text : List ℕ → ℕ → List ℕ
add_text key amount = concat (codes "add " ∷ shown key ∷ codes " " ∷ decimal amount ∷ codes "\n" ∷ [])

abbrev pub op_text : Op → List ℕ
op_text (op.Insert key value) = write_text (codes "insert ") key value
op_text (op.Update key value) = write_text (codes "update ") key value
op_text (op.Upsert key value) = write_text (codes "upsert ") key value
op_text (op.Delete key) = worded (codes "delete ") key
op_text (op.Add key amount) = add_text key amount

abbrev pub inverse_text : Option Op → List ℕ
inverse_text (Some op) = op_text op
inverse_text None = codes "none\n"

-- an operation of a transaction, behind the transaction's one before
abbrev pub act_text : ℕ → ℕ → Op → List ℕ
act_text txn prev op = concat (codes "op " ∷ decimal txn ∷ codes " prev " ∷ decimal prev ∷ codes " " ∷ []) ++ op_text op

-- a compensation: whose it is, what it undoes, what is undone next, and by what it undoes
abbrev pub comp_text : ℕ → ℕ → ℕ → Option Op → List ℕ
comp_text txn undoes next inverse =
    concat (codes "comp " ∷ decimal txn ∷ codes " undoes " ∷ decimal undoes ∷ codes " next " ∷ decimal next ∷ codes
    " " ∷ []) ++ inverse_text inverse

abbrev pub record_text : Record → List ℕ
record_text record-is.Session = codes "session\n"
record_text record-is.Begin = codes "begin\n"
record_text (record-is.Op txn prev op) = act_text txn prev op
record_text (record-is.Answer of answer) = answered_line of answer
record_text (record-is.Comp txn undoes next inverse) = comp_text txn undoes next inverse
record_text (record-is.Commit txn) = numbered (codes "commit ") txn
record_text (record-is.End txn) = numbered (codes "end ") txn
record_text (record-is.Checkpoint low) = numbered (codes "checkpoint ") low

abbrev pub record_line : ℕ → Record → List ℕ
record_line lsn r = concat (decimal lsn ∷ codes " " ∷ []) ++ record_text r

-- the line of the record of this number
abbrev pub line_at : ℕ → Option Record → List ℕ
line_at lsn None = []
line_at lsn (Some r) = record_line lsn r

-- the lines of the first n records, in order
abbrev pub lines_to : List Record → ℕ → List ℕ
lines_to log zero = []
lines_to log (suc n) = lines_to log n ++ line_at (suc n) (record_at log (suc n))

-- the first n records, and the line behind them
abbrev pub log_end : ℕ → ℕ → List ℕ
log_end n stable = concat (codes "records " ∷ decimal n ∷ codes " stable " ∷ decimal stable ∷ codes "\n" ∷ [])

abbrev pub log_text : List Record → ℕ → List ℕ
log_text log stable = lines_to log (length log) ++ log_end (length log) stable
