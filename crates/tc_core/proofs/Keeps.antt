-- Each record that is appended keeps what is kept of an open transaction that it isn't about.
use Rattle.std.proofs.Common.{◌≡◌, ◌≢◌, ℕ, ◌+◌, ◌≤◌, false, List, [], ◌∷◌, length, Option, Some, refl, sym, ap, ◌∙◌, arith, inl, inr, ◌⊎◌}
use Rattle.std.specs.List.{AllByRecursion}
use Rattle.std.proofs.lemmas.Bool.{cases_eq, cases_Bool}
use Rattle.record_key.specs.declared.op.Op.{Op}
use Rattle.history.specs.declared.record.Record.{Record}
use Rattle.history.specs.declared.record.Record.TheVariants as is
use Rattle.history.specs.Log.{has_ended, IsOpen, IsStepOf, Requests}
use Rattle.history.specs.Legal.{IsLegal, IsLatestOrNone}
use Rattle.history.specs.Chains.{undo_from}
use Rattle.log_laws.proofs.Records.{AStep, ARequest, newest_at, older_at, kept_at, record_old, not_newest}
use Rattle.log_laws.proofs.LegalLogs.{ABegin, begun_number, ended_push, falls, step_number}
use Rattle.log_laws.proofs.Named.{ended_begun}
use Rattle.log_laws.proofs.Undo.{steps_there, steps_back, latest_as, latest_number}
use Rattle.tc_core.specs.declared.open_txn.OpenTxn.{OpenTxn}
use Rattle.tc_core.specs.declared.open_txn.Rollback.{Rollback}
use Rattle.tc_core.specs.Kept.{IsOpenTxn, IsRollback, Waits}

-- a transaction that is open with one record more is the newest record or was open
pub open_had : (r : Record) (log : List Record) (t : ℕ) → IsOpen (r ∷ log) t
    → ((t ≡ length log + 1) × (r ≡ is.Begin)) ⊎ IsOpen log t
open_had r log t h =
    elim (cases_eq t (length log + 1)) [
      | inl e ↦ let same : Some r ≡ Some is.Begin = newest_at ABegin r log t e h.begun in inl (e, cc)
      | inr e ↦ inr (record {
        begun = older_at ABegin r log t e h.begun;
        goes_on = falls (has_ended log t) (has_ended (r ∷ log) t) (ended_push t r log) h.goes_on;
      })
    ]

-- so it was open, where no transaction begins
pub open_was : (r : Record) (log : List Record) → r ≢ is.Begin → (t : ℕ) → IsOpen (r ∷ log) t → IsOpen log t
open_was r log no_begin t h = elim (open_had r log t h) [ inl new ↦ absurd (no_begin new.1) | inr was ↦ was ]

pub open_kept : (r : Record) (log : List Record) (t : ℕ) → has_ended (r ∷ log) t ≡ has_ended log t → IsOpen log t
    → IsOpen (r ∷ log) t
open_kept r log t same h = record {
  begun = kept_at ABegin r log t (begun_number log t h.begun) h.begun;
  goes_on = same ∙ h.goes_on;
}

-- so nobody of the next number has ended
pub unended_next : (log : List Record) → IsLegal log → has_ended log (length log + 1) ≡ false
unended_next log legal =
    elim (cases_Bool (has_ended log (length log + 1))) [
      | inl h ↦ absurd (not_newest log (length log + 1)
          (begun_number log (length log + 1) (ended_begun log (length log + 1) legal h)) refl)
      | inr h ↦ h
    ]

-- a record that is neither a step nor an end of the transaction leaves what is kept of it
pub record IsNeutral (r : Record) (log : List Record) (t : ℕ) : Type 0 where
  pub no_step : AStep t (Some r) → ⊥
  pub ends_not : has_ended (r ∷ log) t ≡ has_ended log t

module _ (r : Record) (log : List Record) (t : ℕ) (neutral : IsNeutral r log t) where
  last_is : (s : ℕ) → IsLatestOrNone (IsStepOf log t) s → IsLatestOrNone (IsStepOf (r ∷ log) t) s
  last_is s h = latest_as (IsStepOf log t) (IsStepOf (r ∷ log) t) (steps_back r log t neutral.no_step)
      (steps_there r log t neutral.no_step) s h

  pub request_was : (m : ℕ) (o : Op) → IsStepOf (r ∷ log) t m → Requests (r ∷ log) m o → Requests log m o
  request_was m o step h =
      older_at (ARequest o) r log m
      (not_newest log m (step_number log m t (steps_there r log t neutral.no_step m step))) h

-- what lies within a log lies within a longer one
saves_longer : (m n : ℕ) (saves : List ℕ) → m ≤ n → AllByRecursion (λ end. end ≤ m) saves
    → AllByRecursion (λ end. end ≤ n) saves
saves_longer m n [] more all = tt
saves_longer m n (s ∷ saves) more all = (omega (arith, all.0, more), saves_longer m n saves more all.1)

-- savepoints and the bound of a rollback stay where they were
pub record IsBounded (log : List Record) (o : OpenTxn) : Type 0 where
  pub saves : AllByRecursion (λ end. end ≤ length log) o.saves
  pub rolling : (r : Rollback) → o.rolling ≡ Some r → IsRollback log r

pub bounded : (r : Record) (log : List Record) (o : OpenTxn) → IsOpenTxn log o → IsBounded (r ∷ log) o
bounded r log o h = record {
  saves = saves_longer (length log) (length (r ∷ log)) o.saves (omega arith) h.saves;
  rolling = λ b is. let was : IsRollback log b = h.rolling b is in
      record { whole = was.whole; within = omega (arith, was.within) };
}

pub still_open : (r : Record) (log : List Record) (o : OpenTxn) (w : Option ℕ) → IsNeutral r log o.txn → IsOpenTxn log o
    → Waits (r ∷ log) (record o { waiting = w }) w → IsOpenTxn (r ∷ log) (record o { waiting = w })
still_open r log o w neutral h waits = record {
  is = open_kept r log o.txn neutral.ends_not h.is;
  last = last_is r log o.txn neutral o.last h.last;
  undo = h.undo ∙ ap (λ x. undo_from x o.last)
      (sym (record_old r log o.last (λ e. omega (arith, e, latest_number log o.txn o.last h.last))));
  waits = waits;
  saves = (bounded r log o h).saves;
  rolling = (bounded r log o h).rolling;
}
