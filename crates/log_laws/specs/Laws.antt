-- What is true of every legal log.
use Rattle.std.specs.Prelude.{◌≡◌, ℕ, ◌<◌, ◌&&◌, Bool, false, not, is_some, List, ◌∷◌, ◌++◌, Option, Some, IsSome}
use Rattle.std.specs.FinMap.{get}
use Rattle.record_key.specs.declared.op.Op.{Op}
use Rattle.record_key.specs.declared.op.Answer.{Answer}
use Rattle.record_key.specs.Table.{Bytes, key_of, is_add, answer_at, value_after}
use Rattle.inverse.specs.Inverse.{IsEffective}
use Rattle.history.specs.declared.record.Record.{Record}
use Rattle.history.specs.declared.record.Record.TheVariants as is
use Rattle.history.specs.History.{plain}
use Rattle.history.specs.Log.{record_at, before, answer_of, is_crossed, Requests, IsStepOf, IsOpBy, hist}
use Rattle.history.specs.Legal.{IsLatestOrNone, Stands, IsLegal}
use Rattle.history.specs.Chains.{IsWellChained, IsStrict, IsOneAtATime, adds_at, undo_from, prev_in}
use Rattle.history.specs.Values.{value_on, value_where, value_standing, value_without, IsRight, HasRightAnswers}
use Rattle.history.specs.Honest.{numbered_on, value_of, AreCaptured}

-- a beginning of a legal log is legal, and has right answers where the log has them
pub record BeginningsAreLegal : Type 0 where
  pub legal : (newer older : List Record) → IsLegal (newer ++ older) → IsLegal older
  pub right : (newer older : List Record) → HasRightAnswers (newer ++ older) → HasRightAnswers older

-- compensations come latest first and once, and an open transaction has its keys to itself, but for Adds
abbrev pub LegalIsChainedAndStrict : Type 0
LegalIsChainedAndStrict = (log : List Record) → IsLegal log → IsWellChained log × IsStrict log

-- the record of this number compensates this operation
pub record Names (log : List Record) (n undoes : ℕ) : Type 0 where
  pub txn : ℕ
  pub next : ℕ
  pub inverse : Option Op
  pub is : record_at log n ≡ Some (is.Comp txn undoes next inverse)

-- no operation is compensated twice
abbrev pub LegalIsCompensatedOnce : Type 0
LegalIsCompensatedOnce =
    (log : List Record) (n m undoes : ℕ) → IsLegal log → Names log n undoes → Names log m undoes → n ≡ m

-- of two requests on a key the earlier is answered before the later one stands, unless both add
abbrev pub LegalIsOneAtATime : Type 0
LegalIsOneAtATime = (log : List Record) → IsLegal log → IsOneAtATime log

-- two looks find what a transaction has left to undo, and what is left after that
pub record FindsUndo (log : List Record) (t : ℕ) : Type 0 where
  pub latest : (s : ℕ) → IsLatestOrNone (IsStepOf log t) s
      → IsLatestOrNone (Stands log t) (undo_from (record_at log s) s)
  pub earlier : (u : ℕ) → Stands log t u
      → IsLatestOrNone (λ n. Stands log t n × (n < u))
      (undo_from (record_at log (prev_in (record_at log u))) (prev_in (record_at log u)))

abbrev pub UndoIsFound : Type 0
UndoIsFound = (log : List Record) (t : ℕ) → IsLegal log → FindsUndo log t

-- a lost Answer record can only come back the same
abbrev pub RightAnswersAreUnique : Type 0
RightAnswersAreUnique = (log : List Record) (n : ℕ) (o : Op) (a b : Answer) → Requests log n o → IsRight log n a
    → IsRight log n b → a ≡ b

-- where a compensation fits, its key holds what the operation leaves of what the others that stand leave, so the
-- inverse gives that back; unless it is an Add that is what was there before
pub record Brackets (log : List Record) (u : ℕ) (o i : Op) : Type 0 where
  pub same_key : key_of i ≡ key_of o
  pub left : value_on (key_of o) log ≡ value_after o (value_without (key_of o) u log)
  pub given_back : value_after i (value_on (key_of o) log) ≡ value_without (key_of o) u log
  pub was : is_add o ≡ false → value_without (key_of o) u log ≡ value_on (key_of o) (before log u)
  pub effective : IsEffective (answer_at i (value_on (key_of o) log))

abbrev pub CompensationsBracket : Type 0
CompensationsBracket =
    (log : List Record) (t u x : ℕ) (o i : Op) → IsLegal (is.Comp t u x (Some i) ∷ log) → HasRightAnswers log
    → IsOpBy log u t o
    → Brackets log u o i

-- where the answers are right, just what does an Add or undoes one requests an Add
abbrev pub AddsRequestAdds : Type 0
AddsRequestAdds =
    (log : List Record) (n : ℕ) (o : Op) → IsLegal log → HasRightAnswers log → Requests log n o
    → is_add o ≡ adds_at log n

-- operations and inverses together leave what the operations that stand leave alone
abbrev pub CompensationsCancel : Type 0
CompensationsCancel =
    (log : List Record) → IsLegal log → HasRightAnswers log → (k : Bytes) → value_on k log ≡ value_standing k log

-- the plain map of a log's history holds what its answered operations leave that no compensation names
abbrev pub PlainOfHistory : Type 0
PlainOfHistory =
    (log : List Record) (k : Bytes)
    → get (plain (hist log)) k ≡ value_where k (λ n. is_some (answer_of log n) && not (is_crossed log n)) log

-- every operation has its answer
abbrev pub IsAllAnswered : List Record → Type 0
IsAllAnswered log = (n t : ℕ) (o : Op) → IsOpBy log n t o → IsSome (answer_of log n)

-- each compensation that asks for something has its answer
abbrev pub OnlyOperationsWait : List Record → Type 0
OnlyOperationsWait log =
    (n t u x : ℕ) (i : Op) → record_at log n ≡ Some (is.Comp t u x (Some i)) → IsSome (answer_of log n)

-- so where only operations wait, several on a key where they are Adds, what is answered leaves the plain map
abbrev pub AnsweredIsPlain : Type 0
AnsweredIsPlain =
    (log : List Record) → IsLegal log → HasRightAnswers log → OnlyOperationsWait log
    → (k : Bytes) → value_of (λ n. is_some (answer_of log n)) (numbered_on k log) ≡ get (plain (hist log)) k

-- and where all is answered, a key of which everything is captured holds what the plain map has
abbrev pub SettledIsPlain : Type 0
SettledIsPlain =
    (log : List Record) → IsLegal log → HasRightAnswers log → IsAllAnswered log
    → (k : Bytes) (cap : ℕ → Bool) → AreCaptured cap (numbered_on k log)
    → value_of cap (numbered_on k log) ≡ get (plain (hist log)) k
