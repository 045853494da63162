-- What a log does to a key.
use Rattle.std.specs.Prelude.{◌≡◌, ℕ, ◌+◌, ◌==◌, ◌&&◌, ◌||◌, Bool, not, List, [], ◌∷◌, Option, Some, None, length, if◌then◌else◌}
use Rattle.std.specs.Ordering.{eq_by_cmp}
use Rattle.record_key.specs.declared.op.Op.{Op}
use Rattle.record_key.specs.declared.op.Answer.{Answer}
use Rattle.record_key.specs.Table.{Bytes, key_of, answer_at, value_after}
use Rattle.record_key.specs.Laws.{key_cmp}
use Rattle.history.specs.declared.record.Record.{Record}
use Rattle.history.specs.declared.record.Record.TheVariants as is
use Rattle.history.specs.Log.{before, is_crossed, request_of, op_of, Requests}

abbrev pub is_on : Bytes → Op → Bool
is_on k o = eq_by_cmp key_cmp k (key_of o)

-- the record of a key after an operation, where it is on the key
abbrev pub value_with : Bytes → Option Op → Option Bytes → Option Bytes
value_with k None r = r
value_with k (Some o) r = if is_on k o then value_after o r else r

-- what every operation and inverse of the log, in order, leaves at the key
abbrev pub value_on : Bytes → List Record → Option Bytes
value_on k [] = None
value_on k (r ∷ log) = value_with k (request_of r) (value_on k log)

-- what only the operations whose numbers pass the test leave there
abbrev pub value_kept : Bytes → ℕ → (ℕ → Bool) → Option (ℕ × Op) → Option Bytes → Option Bytes
value_kept k n p None r = r
value_kept k n p (Some by) r = if p n && is_on k by.1 then value_after by.1 r else r

abbrev pub value_where : Bytes → (ℕ → Bool) → List Record → Option Bytes
value_where k p [] = None
value_where k p (r ∷ log) = value_kept k (length log + 1) p (op_of r) (value_where k p log)

-- what the operations that no compensation names leave there
abbrev pub value_standing : Bytes → List Record → Option Bytes
value_standing k log = value_where k (λ n. not (is_crossed log n)) log

-- and what they leave without this one
abbrev pub value_without : Bytes → ℕ → List Record → Option Bytes
value_without k u log = value_where k (λ n. not ((n == u) || is_crossed log n)) log

-- each Answer record holds what its operation gets after the requests before it on its key
abbrev pub IsRight : List Record → ℕ → Answer → Type 0
IsRight log n a = (o : Op) → Requests log n o → a ≡ answer_at o (value_on (key_of o) (before log n))

abbrev pub HasRightAnswers : List Record → Type 0
HasRightAnswers [] = Unit {0}
HasRightAnswers (is.Answer n a ∷ log) = IsRight log n a × HasRightAnswers log
HasRightAnswers (r ∷ log) = HasRightAnswers log
