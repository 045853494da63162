-- The exact bytes of answers, and of values and rows that a transaction asked for.
use Rattle.std.specs.Prelude.{ℕ, List, [], ◌∷◌, ◌++◌, Option, Some, None, codes, decimal, length, flat_map}
use Rattle.std.specs.List.{concat}
use Rattle.record_key.specs.declared.op.Answer.{Answer}
use Rattle.record_key.specs.declared.op.Answer.TheVariants as answer
use Rattle.record_key.specs.Rows.{Row}
use Rattle.shell_scripts.specs.Printed.{shown_if, worded, numbered}
use Rattle.shell_scripts.specs.Stored.{row_line}

-- an answer, and the end of its line
abbrev pub answer_text : Answer → List ℕ
answer_text answer.Inserted = codes "inserted\n"
answer_text (answer.Updated old) = worded (codes "updated ") old
answer_text (answer.Was (Some old)) = worded (codes "was ") old
answer_text (answer.Was None) = codes "was -\n"
answer_text (answer.Deleted old) = worded (codes "deleted ") old
answer_text answer.Exists = codes "exists\n"
answer_text answer.NoRecord = codes "missing\n"
answer_text answer.NotNumber = codes "notnumber\n"
answer_text (answer.Added amount) = numbered (codes "added ") amount

-- the answer to a number: a transaction's to its client, or a record's
abbrev pub answered_line : ℕ → Answer → List ℕ
answered_line number answer = concat (codes "answer " ∷ decimal number ∷ codes " " ∷ []) ++ answer_text answer

-- the value that a transaction asked for, a dash where there is no record
abbrev pub value_line : ℕ → Option (List ℕ) → List ℕ
value_line txn value = concat (codes "row " ∷ decimal txn ∷ codes " " ∷ shown_if value ∷ codes "\n" ∷ [])

-- a word, a transaction, and how many rows it is told of
abbrev pub counted_line : List ℕ → ℕ → ℕ → List ℕ
counted_line word txn count = concat (word ∷ decimal txn ∷ codes " " ∷ decimal count ∷ codes "\n" ∷ [])

-- the rows that a transaction asked for, and first how many they are
abbrev pub found_text : ℕ → List Row → List ℕ
found_text txn rows = counted_line (codes "rows ") txn (length rows) ++ flat_map row_line rows
