-- What is kept of a log while its records are read one after another: the value at each key, and what each request gets
-- that has no answer yet.
use Rattle.std.specs.Prelude.{◌≡◌, ℕ, ◌+◌, ◌==◌, List, [], ◌∷◌, Option, Some, None, length, if◌then◌else◌}
use Rattle.std.specs.Ordering.{eq_by_cmp, nat_cmp}
use Rattle.std.specs.BTreeMap as tree
use Rattle.record_key.specs.declared.op.Op.{Op}
use Rattle.record_key.specs.declared.op.Answer.{Answer}
use Rattle.record_key.specs.Laws.{key_cmp}
use Rattle.record_key.specs.Table.{Bytes, key_of, answer_at}
use Rattle.history.specs.declared.record.Record.{Record}
use Rattle.history.specs.declared.record.Record.TheVariants as is
use Rattle.history.specs.Log.{record_at, before, request_of, request_in}
use Rattle.history.specs.Values.{value_on, HasRightAnswers}

abbrev pub value_held : tree.BTreeMap Bytes Bytes → Bytes → Option Bytes
value_held values k = tree.get key_cmp values k

-- the one map is the other but for this at the key
abbrev pub PutsAt : tree.BTreeMap Bytes Bytes → tree.BTreeMap Bytes Bytes → Bytes → Option Bytes → Type 0
PutsAt old new k v = (q : Bytes) → value_held new q ≡ (if eq_by_cmp key_cmp k q then v else value_held old q)

abbrev pub due_held : tree.BTreeMap ℕ Answer → ℕ → Option Answer
due_held dues n = tree.get nat_cmp dues n

-- what a request gets after these records
abbrev pub due_to : List Record → Option Op → Option Answer
due_to log None = None
due_to log (Some o) = Some (answer_at o (value_on (key_of o) log))

-- what the record of a number gets
abbrev pub due_at : List Record → ℕ → Option Answer
due_at log n = due_to (before log n) (request_in (record_at log n))

-- what is due for a number once these records have come to ask for this, where it was that before
abbrev pub due_asked : List Record → Option Op → ℕ → Option Answer → Option Answer
due_asked log None n due = due
due_asked log (Some o) n due = if n == length log + 1 then due_to log (Some o) else due

-- what the record of a number gets, and nothing once it has an answer
abbrev pub due_left : List Record → ℕ → Option Answer
due_left [] n = None
due_left (is.Answer of answer ∷ log) n = if n == of then None else due_left log n
due_left (r ∷ log) n = due_asked log (request_of r) n (due_left log n)

-- what is kept of these records: each key's value, and what each request gets that has no answer yet
pub record Follows (log : List Record) (values : tree.BTreeMap Bytes Bytes) (dues : tree.BTreeMap ℕ Answer) : Type 0 where
  pub of_keys : (k : Bytes) → value_held values k ≡ value_on k log
  pub of_requests : (n : ℕ) → due_held dues n ≡ due_left log n

-- and their answers are right
pub record IsReplay (log : List Record) (values : tree.BTreeMap Bytes Bytes) (dues : tree.BTreeMap ℕ Answer) : Type 0 where
  pub right : HasRightAnswers log
  pub follows : Follows log values dues
