-- Numbers of a log: what one record more changes, and the log before a number.
use Rattle.std.proofs.Common.{◌≡◌, ◌≢◌, ℕ, ◌+◌, ◌<◌, ◌≤◌, Bool, cond, List, [], ◌∷◌, length, Option, Some, None, refl, sym, ap, ◌∙◌, subst, arith, inl, inr, ◌⊎◌, eq-eqb, ne_eqb}
use Rattle.std.proofs.lemmas.Bool.{cases_eq}
use Rattle.record_key.specs.declared.op.Op.{Op}
use Rattle.history.specs.declared.record.Record.{Record}
use Rattle.history.specs.declared.record.Record.TheVariants as is
use Rattle.history.specs.Log.{record_at, before, request_in, step_in, op_in}

-- an operation with its transaction is another with its own
abbrev Same : ℕ → Op → ℕ → Op → Type 0
Same t o u q = ◌≡◌ {A = ℕ × Op} (t, o) (u, q)

abbrev SomeSame : ℕ → Op → ℕ → Op → Type 0
SomeSame t o u q = ◌≡◌ {A = Option (ℕ × Op)} (Some (t, o)) (Some (u, q))

-- what a number may be said to have
abbrev pub AStep : ℕ → Option Record → Type 0
AStep t r = step_in r ≡ Some t

abbrev pub AnOp : ℕ → Op → Option Record → Type 0
AnOp t o r = op_in r ≡ Some (t, o)

abbrev pub ARequest : Op → Option Record → Type 0
ARequest o r = request_in r ≡ Some o

-- an operation with its transaction is this one with this one
pub both_same : (t u : ℕ) (o q : Op) → SomeSame t o u q → (t ≡ u) × (o ≡ q)
both_same t u o q h = let e : Same t o u q = cc in (ap (λ (by : ℕ × Op). by.0) e, ap (λ (by : ℕ × Op). by.1) e)

-- an operation is a step
pub op_step : (t : ℕ) (o : Op) (r : Option Record) → AnOp t o r → AStep t r
op_step t o r h = grind arith

-- an operation is a request
pub op_request : (t : ℕ) (o : Op) (r : Option Record) → AnOp t o r → ARequest o r
op_request t o r h = grind arith

-- a request is a step of some transaction
pub request_step : (o : Op) (r : Option Record) → ARequest o r → (t : ℕ) × AStep t r
request_step o None h = absurd (cc)
request_step o (Some (is.Op t' p' o')) h = (t', refl)
request_step o (Some (is.Comp t' u' x' i')) h = (t', refl)
request_step o (Some _) h = absurd (cc)

-- an operation has one transaction, and is one operation
pub op_same : (t u : ℕ) (o q : Op) (r : Option Record) → AnOp t o r → AnOp u q r → (t ≡ u) × (o ≡ q)
op_same t u o q r h k = both_same t u o q (sym h ∙ k)

-- no record is none of these
pub no_step : (t : ℕ) → AStep t None → ⊥
no_step t h = cc

pub no_op : (t : ℕ) (o : Op) → AnOp t o None → ⊥
no_op t o h = cc

pub no_request : (o : Op) → ARequest o None → ⊥
no_request o h = cc

-- the newest number has the newest record
pub at_newest : (P : Option Record → Type 0) (r : Record) (log : List Record) (n : ℕ) → n ≡ length log + 1 → P (Some r)
    → P (record_at (r ∷ log) n)
at_newest h r log n e h2 = grind arith

pub newest_at : (P : Option Record → Type 0) (r : Record) (log : List Record) (n : ℕ) → n ≡ length log + 1
    → P (record_at (r ∷ log) n) → P (Some r)
newest_at P r log n e h = subst (λ (b : Bool). P (cond b (Some r) (record_at log n))) (eq-eqb n (length log + 1) e) h

-- any other has the record that it had
pub at_older : (P : Option Record → Type 0) (r : Record) (log : List Record) (n : ℕ) → n ≢ length log + 1
    → P (record_at log n) → P (record_at (r ∷ log) n)
at_older h r log n e h2 = grind arith

pub older_at : (P : Option Record → Type 0) (r : Record) (log : List Record) (n : ℕ) → n ≢ length log + 1
    → P (record_at (r ∷ log) n) → P (record_at log n)
older_at P r log n e h = subst (λ (b : Bool). P (cond b (Some r) (record_at log n))) (ne_eqb n (length log + 1) e) h

-- the same as equations
pub record_new : (r : Record) (log : List Record) → record_at (r ∷ log) (length log + 1) ≡ Some r
record_new r log = at_newest (λ x. x ≡ Some r) r log (length log + 1) refl refl

pub record_old : (r : Record) (log : List Record) (n : ℕ) → n ≢ length log + 1 → record_at (r ∷ log) n ≡ record_at log n
record_old r log n e = at_older (λ x. x ≡ record_at log n) r log n e refl

-- a number of the log
pub record IsNumber (log : List Record) (n : ℕ) : Type 0 where
  pub positive : 0 < n
  pub bounded : n ≤ length log

-- a number is one of a longer log too
pub longer : (r : Record) (log : List Record) (n : ℕ) → IsNumber log n → IsNumber (r ∷ log) n
longer r log n h = record { positive = h.positive; bounded = omega arith }

-- and so is the newest
pub newest_number : (r : Record) (log : List Record) (n : ℕ) → n ≡ length log + 1 → IsNumber (r ∷ log) n
newest_number r log n e = record { positive = omega arith; bounded = omega arith }

-- of a longer log, a number is the newest or was there
pub which : (r : Record) (log : List Record) (n : ℕ) → IsNumber (r ∷ log) n → (n ≡ length log + 1) ⊎ IsNumber log n
which r log n h = grind arith

-- a number that was there isn't the newest
pub not_newest : (log : List Record) (n : ℕ) → IsNumber log n → n ≢ length log + 1
not_newest log n h e = omega (arith, h.bounded, e)

-- only numbers of the log have a record
pub within : (P : Option Record → Type 0) → (P None → ⊥) → (log : List Record) (n : ℕ) → P (record_at log n)
    → IsNumber log n
within P nothing [] n h = absurd (nothing h)
within P nothing (r ∷ log) n h =
    elim (cases_eq n (length log + 1))
    [ inl e ↦ newest_number r log n e | inr e ↦ longer r log n (within P nothing log n (older_at P r log n e h)) ]

-- a number that isn't one of the log has no record
pub beyond : (log : List Record) (n : ℕ) → (n ≤ length log → 0 < n → ⊥) → record_at log n ≡ None
beyond log n out = by (record_at log n) refl
  where
    by : (v : Option Record) → record_at log n ≡ v → v ≡ None
    by None e = refl
    by (Some r) e = let number = within (λ x. x ≡ Some r) (λ f. cc) log n e in
        absurd (out number.bounded number.positive)

-- what a number has it has in a longer log
pub kept_at : (P : Option Record → Type 0) (r : Record) (log : List Record) (n : ℕ) → IsNumber log n
    → P (record_at log n) → P (record_at (r ∷ log) n)
kept_at P r log n is h = at_older P r log n (not_newest log n is) h

pub had_at : (P : Option Record → Type 0) (r : Record) (log : List Record) (n : ℕ) → IsNumber log n
    → P (record_at (r ∷ log) n) → P (record_at log n)
had_at P r log n is h = older_at P r log n (not_newest log n is) h

-- the log before the newest number, and before another
pub before_newest : (P : List Record → Type 0) (r : Record) (log : List Record) (n : ℕ) → n ≡ length log + 1 → P log
    → P (before (r ∷ log) n)
before_newest P r log n e h = subst (λ (b : Bool). P (cond b log (before log n))) (sym (eq-eqb n (length log + 1) e)) h

pub before_older : (P : List Record → Type 0) (r : Record) (log : List Record) (n : ℕ) → n ≢ length log + 1
    → P (before log n) → P (before (r ∷ log) n)
before_older P r log n e h = subst (λ (b : Bool). P (cond b log (before log n))) (sym (ne_eqb n (length log + 1) e)) h

-- the same as equations
pub before_new : (r : Record) (log : List Record) (n : ℕ) → n ≡ length log + 1 → before (r ∷ log) n ≡ log
before_new r log n e = before_newest (λ x. x ≡ log) r log n e refl

pub before_old : (r : Record) (log : List Record) (n : ℕ) → n ≢ length log + 1 → before (r ∷ log) n ≡ before log n
before_old r log n e = before_older (λ x. x ≡ before log n) r log n e refl

-- what each record more keeps holds since then
pub since : (P : List Record → Type 0) → ((r : Record) (log : List Record) → P log → P (r ∷ log))
    → (log : List Record) (n : ℕ) → P (before log n) → P log
since P push [] n h = h
since P push (r ∷ log) n h =
    elim (cases_eq n (length log + 1)) [
      | inl e ↦ push r log (subst P (before_new r log n e) h)
      | inr e ↦ push r log (since P push log n (subst P (before_old r log n e) h))
    ]

-- what each beginning keeps held before
pub until : (P : List Record → Type 0) → P [] → ((r : Record) (log : List Record) → P (r ∷ log) → P log)
    → (log : List Record) (n : ℕ) → P log → P (before log n)
until P none pop [] n h = none
until P none pop (r ∷ log) n h =
    grind (arith, until P none pop log n (pop r log h), cases_eq, before_newest, before_older)

-- a number is one more than there are records before it
pub length_before : (log : List Record) (n : ℕ) → IsNumber log n → n ≡ length (before log n) + 1
length_before [] n h = absurd (omega (arith, h.positive, h.bounded))
length_before (r ∷ log) n h =
    elim (which r log n h) [
      | inl e ↦ before_newest (λ x. n ≡ length x + 1) r log n e e
      | inr was ↦ before_older (λ x. n ≡ length x + 1) r log n (not_newest log n was) (length_before log n was)
    ]

-- a number before another has there the record that it has
pub record_before : (log : List Record) (m n : ℕ) → IsNumber log n → m < n
    → record_at (before log n) m ≡ record_at log m
record_before [] m n h less = refl
record_before (r ∷ log) m n h less =
    elim (which r log n h) [
      | inl e ↦ before_newest (λ x. record_at x m ≡ record_at (r ∷ log) m) r log n e
          (sym (record_old r log m (λ f. omega arith)))
      | inr was ↦ before_older (λ x. record_at x m ≡ record_at (r ∷ log) m) r log n (not_newest log n was)
          (record_before log m n was less ∙ sym (record_old r log m (λ f. omega (arith, was.bounded))))
    ]
