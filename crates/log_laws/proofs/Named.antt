-- What a legal log names was there before: a step's transaction, what is undone. And which transactions are open.
use Rattle.std.proofs.Common.{◌≡◌, ℕ, ◌+◌, ◌<◌, true, false, List, [], ◌∷◌, length, Some, IsSome, is_some, refl, subst, arith, inl, inr}
use Rattle.std.proofs.lemmas.Bool.{cases_Bool}
use Rattle.history.specs.declared.record.Record.{Record}
use Rattle.history.specs.declared.record.Record.TheVariants as is
use Rattle.history.specs.Log.{record_at, answer_of, is_crossed, has_ended, IsOpen, IsStepOf}
use Rattle.history.specs.Legal.{Fits, IsLegal}
use Rattle.log_laws.proofs.Records.{AStep, IsNumber, at_newest, newest_at, had_at, which, not_newest}
use Rattle.log_laws.proofs.LegalLogs.{falls, answered_push, step_open, begun_number, kept_begun, step_number, ended_cases}

-- the transaction of a step began before it
pub txn_below : (log : List Record) (t n : ℕ) → IsLegal log → IsStepOf log t n → t < n
txn_below [] t n legal step = absurd (cc)
txn_below (r ∷ log) t n legal step =
    elim (which r log n (step_number (r ∷ log) n t step)) [
      | inl e ↦ omega (
        arith,
        e,
        (begun_number log t (step_open log r t legal.0 (newest_at (AStep t) r log n e step)).begun).bounded,
      )
      | inr was ↦ txn_below log t n legal.1 (had_at (AStep t) r log n was step)
    ]

-- what is undone was answered
crossed_answered_now : (r : Record) (log : List Record) (n : ℕ) → Fits log r → is_crossed (r ∷ log) n ≡ true
    → (is_crossed log n ≡ true → IsSome (answer_of log n)) → IsSome (answer_of log n)
crossed_answered_now r log n fits c h = grind arith

pub crossed_answered : (log : List Record) (n : ℕ) → IsLegal log → is_crossed log n ≡ true → IsSome (answer_of log n)
crossed_answered [] n legal c = absurd (cc)
crossed_answered (r ∷ log) n legal c =
    answered_push n r log (crossed_answered_now r log n legal.0 c (crossed_answered log n legal.1))

pub unanswered_uncrossed : (log : List Record) (n : ℕ) → IsLegal log → is_some (answer_of log n) ≡ false
    → is_crossed log n ≡ false
unanswered_uncrossed log n legal h = grind (arith, falls, crossed_answered)

-- who has ended had begun
pub ended_begun : (log : List Record) (t : ℕ) → IsLegal log → has_ended log t ≡ true → record_at log t ≡ Some is.Begin
ended_begun [] t legal h = absurd (cc)
ended_begun (r ∷ log) t legal h =
    kept_begun r log t (elim (ended_cases t r log h) [
      | inl ago ↦ ended_begun log t legal.1 ago
      | inr (inl e) ↦ (subst (Fits log) e legal.0).open_txn.begun
      | inr (inr e) ↦ (subst (Fits log) e legal.0).open_txn.begun
    ])

-- so a Begin opens its transaction
pub open_begun : (log : List Record) → IsLegal log → IsOpen (is.Begin ∷ log) (length log + 1)
open_begun log legal = record {
  begun = at_newest (λ x. x ≡ Some is.Begin) is.Begin log (length log + 1) refl refl;
  goes_on = elim (cases_Bool (has_ended log (length log + 1))) [
    | inl ended ↦ absurd (not_newest log (length log + 1)
        (begun_number log (length log + 1) (ended_begun log (length log + 1) legal ended)) refl)
    | inr h ↦ h
  ];
}

-- an open transaction stays open until it ends, and was open since it began
pub open_kept : (r : Record) (log : List Record) (t : ℕ) → IsOpen log t → has_ended (r ∷ log) t ≡ false
    → IsOpen (r ∷ log) t
open_kept r log t h goes_on = record { begun = kept_begun r log t h.begun; goes_on = goes_on }

pub open_had : (r : Record) (log : List Record) (t : ℕ) → IsNumber log t → IsOpen (r ∷ log) t → IsOpen log t
open_had r log t number h = grind arith
