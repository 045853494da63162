-- The index of Answer records, which also tells which records ask for nothing.
use Rattle.std.specs.Prelude.{ℕ, ◌+◌, ◌-◌, ◌<◌, ◌≤◌, ◌||◌, ◌&&◌, Bool, not, List, [], ◌∷◌, ◌++◌, Option, Some, None, is_some, length, slice_set}
use Rattle.record_key.specs.declared.op.Answer.{Answer}
use Rattle.record_key.specs.declared.op.Op.{Op}
use Rattle.history.specs.declared.record.Record.{Record}
use Rattle.history.specs.declared.record.Record.TheVariants as is
use Rattle.history.specs.Log.{record_at, answer_of, request_of, request_in}

-- no record's number: the index holds it where nothing is asked for
abbrev pub asks_nothing : ℕ
asks_nothing = 18446744073709551615

-- what the index holds at first for a record that asks for this
abbrev pub first_place : Option Op → ℕ
first_place None = asks_nothing
first_place (Some op) = 0

-- the index, once this record of this number is noted in it
abbrev pub noted : Record → ℕ → List ℕ → List ℕ
noted (is.Answer of answer) n answers = slice_set answers (of - 1) n ++ asks_nothing ∷ []
noted r n answers = answers ++ first_place (request_of r) ∷ []

abbrev pub NamesWithin : Record → ℕ → Type 0
NamesWithin (is.Answer of answer) count = (0 < of) × (of ≤ count)
NamesWithin _ count = Unit {0}

-- by each number the number of its Answer record, 0 while there is none, no record's number where nothing is asked for
abbrev pub index : List Record → List ℕ
index [] = []
index (r ∷ log) = noted r (length log + 1) (index log)

-- what an Answer record holds
abbrev pub answer_held_by : Option Record → Option Answer
answer_held_by (Some (is.Answer of answer)) = Some answer
answer_held_by _ = None

-- the record of this number asks for nothing, or is answered
abbrev pub is_answered : List Record → ℕ → Bool
is_answered log n = not (is_some (request_in (record_at log n))) || is_some (answer_of log n)

-- it asks for something, and its Answer record doesn't stand
abbrev pub lacks_answer : List Record → ℕ → Bool
lacks_answer log n = is_some (request_in (record_at log n)) && not (is_some (answer_of log n))
