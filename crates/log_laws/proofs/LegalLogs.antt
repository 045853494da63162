-- What holds of every legal log: its beginnings, what its records fit, and what its numbers name.
use Rattle.std.proofs.Common.{arith, ◌≡◌, ℕ, ◌+◌, Bool, true, false, cond, List, [], ◌∷◌, ◌++◌, length, Option, Some, IsSome, is_some, refl, subst, inl, inr, ◌⊎◌}
use Rattle.std.proofs.lemmas.Bool.{cases_eq, cases_Bool}
use Rattle.record_key.specs.declared.op.Op.{Op}
use Rattle.record_key.specs.declared.op.Answer.{Answer}
use Rattle.history.specs.declared.record.Record.{Record}
use Rattle.history.specs.declared.record.Record.TheVariants as is
use Rattle.history.specs.Log.{record_at, before, answer_of, is_crossed, has_ended, IsOpen, Requests, IsStepOf, IsOpBy, HasRequest}
use Rattle.history.specs.Legal.{Fits, IsLegal, IsIdle, Stands}
use Rattle.history.specs.Values.{HasRightAnswers}
use Rattle.log_laws.proofs.Records.{AStep, AnOp, ARequest, op_step, no_step, no_op, no_request, newest_at, older_at, IsNumber, not_newest, within, kept_at, before_newest, before_older, until}

-- a beginning is legal
pub legal_end : (newer older : List Record) → IsLegal (newer ++ older) → IsLegal older
legal_end [] older h = h
legal_end (r ∷ newer) older h = legal_end newer older h.1

-- answers are right without the newest record
pub right_rest : (r : Record) (log : List Record) → HasRightAnswers (r ∷ log) → HasRightAnswers log
right_rest r log h = grind arith

-- and in every beginning
pub right_end : (newer older : List Record) → HasRightAnswers (newer ++ older) → HasRightAnswers older
right_end [] older h = h
right_end (r ∷ newer) older h = right_end newer older (right_rest r (newer ++ older) h)

-- the log before a number is a beginning
pub legal_before : (log : List Record) (n : ℕ) → IsLegal log → IsLegal (before log n)
legal_before = until IsLegal tt (λ r log h. h.1)

pub right_before : (log : List Record) (n : ℕ) → HasRightAnswers log → HasRightAnswers (before log n)
right_before = until HasRightAnswers tt right_rest

-- each record fits the log before its number
pub fits_at : (log : List Record) (n : ℕ) (r : Record) → IsLegal log → record_at log n ≡ Some r → Fits (before log n) r
fits_at [] n r h is = absurd (cc)
fits_at (q ∷ log) n r h is =
    elim (cases_eq n (length log + 1)) [
      | inl e ↦
          let same : Some q ≡ Some r = newest_at (λ x. x ≡ Some r) q log n e is in
          let equal : q ≡ r = cc in
          before_newest (λ x. Fits x r) q log n e (subst (Fits log) equal h.0)
      | inr e ↦ before_older (λ x. Fits x r) q log n e (fits_at log n r h.1 (older_at (λ x. x ≡ Some r) q log n e is))
    ]

-- either of two answers is one
some_either : (b : Bool) (a : Answer) (o : Option Answer) → IsSome o → IsSome (cond b (Some a) o)
some_either b a o h = grind arith

-- what has ended, is answered or crossed stays so
pub ended_push : (t : ℕ) (r : Record) (log : List Record) → has_ended log t ≡ true → has_ended (r ∷ log) t ≡ true
ended_push t r log h = grind arith

pub answered_push : (n : ℕ) (r : Record) (log : List Record) → IsSome (answer_of log n) → IsSome (answer_of (r ∷ log) n)
answered_push n r log h = grind arith

pub crossed_push : (n : ℕ) (r : Record) (log : List Record) → is_crossed log n ≡ true → is_crossed (r ∷ log) n ≡ true
crossed_push n r log h = grind arith

-- so what isn't so yet wasn't so before
pub falls : (a b : Bool) → (a ≡ true → b ≡ true) → b ≡ false → a ≡ false
falls a b h e = grind arith

-- a record that is a transaction's step has it open and idle, and ends nobody
pub step_open : (log : List Record) (r : Record) (t : ℕ) → Fits log r → AStep t (Some r) → IsOpen log t
step_open log r t h s = grind arith

pub step_idle : (log : List Record) (r : Record) (t : ℕ) → Fits log r → AStep t (Some r) → IsIdle log t
step_idle log r t h s = grind arith

pub step_ends_none : (log : List Record) (r : Record) (t u : ℕ) → AStep t (Some r)
    → has_ended (r ∷ log) u ≡ has_ended log u
step_ends_none log r t u s = grind arith

-- of a record: it is a Begin
abbrev pub ABegin : Option Record → Type 0
ABegin r = r ≡ Some is.Begin

-- a transaction that has begun is a number of the log
pub begun_number : (log : List Record) (t : ℕ) → record_at log t ≡ Some is.Begin → IsNumber log t
begun_number log t h = within ABegin (λ e. cc) log t h

-- and has begun for good
pub kept_begun : (r : Record) (log : List Record) (t : ℕ) → record_at log t ≡ Some is.Begin
    → record_at (r ∷ log) t ≡ Some is.Begin
kept_begun r log t h = kept_at ABegin r log t (begun_number log t h) h

-- the transaction of a step has begun
pub begun : (log : List Record) (t n : ℕ) → IsLegal log → IsStepOf log t n → record_at log t ≡ Some is.Begin
begun [] t n h s = absurd (cc)
begun (r ∷ log) t n h s =
    elim (cases_eq n (length log + 1)) [
      | inl e ↦ kept_begun r log t (step_open log r t h.0 (newest_at (AStep t) r log n e s)).begun
      | inr e ↦ kept_begun r log t (begun log t n h.1 (older_at (AStep t) r log n e s))
    ]

-- a transaction that has ended had, or does by the newest record
pub ended_cases : (t : ℕ) (r : Record) (log : List Record) → has_ended (r ∷ log) t ≡ true
    → (has_ended log t ≡ true) ⊎ ((r ≡ is.Commit t) ⊎ (r ≡ is.End t))
ended_cases t r log h = grind arith

-- a number of an operation
pub record SomeOp (log : List Record) (n : ℕ) : Type 0 where
  pub txn : ℕ
  pub op : Op
  pub is_op : IsOpBy log n txn op

-- each of these is a number of the log
pub op_number : (log : List Record) (n t : ℕ) (o : Op) → IsOpBy log n t o → IsNumber log n
op_number log n t o h = within (AnOp t o) (no_op t o) log n h

pub request_number : (log : List Record) (n : ℕ) (o : Op) → Requests log n o → IsNumber log n
request_number log n o h = within (ARequest o) (no_request o) log n h

pub step_number : (log : List Record) (n t : ℕ) → IsStepOf log t n → IsNumber log n
step_number log n t h = within (AStep t) (no_step t) log n h

-- and stays what it is in a longer log
kept_op : (r : Record) (log : List Record) (n : ℕ) → SomeOp log n → SomeOp (r ∷ log) n
kept_op r log n h = grind (arith, kept_at, op_number)

kept_request : (r : Record) (log : List Record) (n : ℕ) → HasRequest log n → HasRequest (r ∷ log) n
kept_request r log n h = grind (arith, kept_at, request_number)

-- what a compensation names is an operation of its transaction
crossed_now : (r : Record) (log : List Record) (n : ℕ) → Fits log r → is_crossed (r ∷ log) n ≡ true
    → (is_crossed log n ≡ true → SomeOp log n) → SomeOp log n
crossed_now r log n h c h2 = grind arith

-- so it is in the whole log
pub crossed_is_op : (log : List Record) (n : ℕ) → IsLegal log → is_crossed log n ≡ true → SomeOp log n
crossed_is_op [] n h c = absurd (cc)
crossed_is_op (r ∷ log) n h c = kept_op r log n (crossed_now r log n h.0 c (crossed_is_op log n h.1))

-- what is answered is a request
answered_now : (r : Record) (log : List Record) (n : ℕ) → Fits log r → IsSome (answer_of (r ∷ log) n)
    → (IsSome (answer_of log n) → HasRequest log n) → HasRequest log n
answered_now r log n h c h2 = grind arith

-- so it is in the whole log
pub answered_is_request : (log : List Record) (n : ℕ) → IsLegal log → IsSome (answer_of log n) → HasRequest log n
answered_is_request [] n h c = absurd (cc)
answered_is_request (r ∷ log) n h c = kept_request r log n (answered_now r log n h.0 c (answered_is_request log n h.1))

-- so the next number is neither crossed nor answered
pub uncrossed_next : (log : List Record) → IsLegal log → is_crossed log (length log + 1) ≡ false
uncrossed_next log h =
    elim (cases_Bool (is_crossed log (length log + 1))) [
      | inl c ↦ let found = crossed_is_op log (length log + 1) h c in
          absurd (not_newest log (length log + 1) (op_number log (length log + 1) found.txn found.op found.is_op) refl)
      | inr c ↦ c
    ]

pub unanswered_next : (log : List Record) → IsLegal log → is_some (answer_of log (length log + 1)) ≡ false
unanswered_next log h =
    elim (cases_Bool (is_some (answer_of log (length log + 1)))) [
      | inl c ↦ let found = answered_is_request log (length log + 1) h c in
          absurd (not_newest log (length log + 1) (request_number log (length log + 1) found.op found.requested) refl)
      | inr c ↦ c
    ]

-- an operation that stands is a step, and stands as long as nothing names it
pub stands_step : (log : List Record) (t n : ℕ) → Stands log t n → IsStepOf log t n
stands_step log t n h = op_step t h.op (record_at log n) h.is

pub stands_number : (log : List Record) (t n : ℕ) → Stands log t n → IsNumber log n
stands_number log t n h = op_number log n t h.op h.is

pub stands_kept : (r : Record) (log : List Record) (t n : ℕ) → Stands log t n → is_crossed (r ∷ log) n ≡ false
    → Stands (r ∷ log) t n
stands_kept r log t n h c = grind (arith, kept_at, stands_number)

-- and it stood before the newest record
pub stands_had : (r : Record) (log : List Record) (t n : ℕ) → IsNumber log n → Stands (r ∷ log) t n → Stands log t n
stands_had r log t n h h2 = grind arith
