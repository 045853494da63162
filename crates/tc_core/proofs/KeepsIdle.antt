-- What an open transaction waits for, when one record more is appended.
use Rattle.std.proofs.Common.{◌≡◌, ℕ, ◌+◌, Bool, true, false, cond, List, ◌∷◌, length, Option, Some, None, IsSome, refl, ◌∙◌, subst, inl, inr, eq-eqb, MatchBool}
use Rattle.std.specs.Prelude.{◌==◌}
use Rattle.std.proofs.lemmas.Bool.{cases_eq}
use Rattle.record_key.specs.declared.op.Op.{Op}
use Rattle.record_key.specs.declared.op.Answer.{Answer}
use Rattle.history.specs.declared.record.Record.{Record}
use Rattle.history.specs.declared.record.Record.TheVariants as is
use Rattle.history.specs.Log.{record_at, answer_of, IsStepOf, Requests}
use Rattle.history.specs.Legal.{IsIdle}
use Rattle.log_laws.proofs.Records.{AStep, ARequest, newest_at, older_at, kept_at, within, IsNumber}
use Rattle.log_laws.proofs.LegalLogs.{answered_push}
use Rattle.tc_core.specs.declared.open_txn.OpenTxn.{OpenTxn}
use Rattle.tc_core.specs.TcView.{rolls_back}
use Rattle.tc_core.specs.Kept.{IsRequest, IsWaiting, IsOpenTxn, Waits}
use Rattle.log_laws.proofs.Undo.{steps_there}
use Rattle.tc_core.proofs.Keeps.{IsNeutral, request_was, still_open}

-- the record that is waited for stays
a_record : (log : List Record) (n : ℕ) (q : Record) → record_at log n ≡ Some q → IsNumber log n
a_record log n q h = within (λ x. x ≡ Some q) (λ e. cc) log n h

request_at : (b : Bool) (r : Record) (log : List Record) (o : OpenTxn) (n : ℕ)
    → MatchBool b ((u : ℕ) × (x : ℕ) × (i : Op) × (record_at log n ≡ Some (is.Comp o.txn u x (Some i))))
    ((p : ℕ) × (op : Op) × (record_at log n ≡ Some (is.Op o.txn p op)))
    → MatchBool b ((u : ℕ) × (x : ℕ) × (i : Op) × (record_at (r ∷ log) n ≡ Some (is.Comp o.txn u x (Some i))))
    ((p : ℕ) × (op : Op) × (record_at (r ∷ log) n ≡ Some (is.Op o.txn p op)))
request_at true r log o n h =
    let q : Record = is.Comp o.txn h.0 h.1 (Some h.2) in
    (h.0, h.1, h.2, kept_at (λ x. x ≡ Some q) r log n (a_record log n q h.3) h.3)
request_at false r log o n h =
    let q : Record = is.Op o.txn h.0 h.1 in (h.0, h.1, kept_at (λ x. x ≡ Some q) r log n (a_record log n q h.2) h.2)

request_kept : (r : Record) (log : List Record) (o : OpenTxn) (n : ℕ) → IsRequest log o n → IsRequest (r ∷ log) o n
request_kept r log o n h = request_at (rolls_back o) r log o n h

-- what is waited for is a request of the transaction
pub record IsOwnRequest (log : List Record) (t n : ℕ) : Type 0 where
  pub op : Op
  pub step : IsStepOf log t n
  pub requests : Requests log n op

own_at : (b : Bool) (log : List Record) (o : OpenTxn) (n : ℕ)
    → MatchBool b ((u : ℕ) × (x : ℕ) × (i : Op) × (record_at log n ≡ Some (is.Comp o.txn u x (Some i))))
    ((p : ℕ) × (op : Op) × (record_at log n ≡ Some (is.Op o.txn p op)))
    → IsOwnRequest log o.txn n
own_at true log o n h = record { op = h.2; step = rw h.3 refl; requests = rw h.3 refl }
own_at false log o n h = record { op = h.1; step = rw h.2 refl; requests = rw h.2 refl }

pub own_request : (log : List Record) (o : OpenTxn) (n : ℕ) → IsRequest log o n → IsOwnRequest log o.txn n
own_request log o n h = own_at (rolls_back o) log o n h

module _ (r : Record) (log : List Record) where
  -- nothing of the transaction is answered by it: who waits waits still
  still_idle : (t : ℕ) → IsNeutral r log t → IsIdle log t → IsIdle (r ∷ log) t
  still_idle t neutral idle n o step requests =
      answered_push n r log (idle n o (steps_there r log t neutral.no_step n step)
      (request_was r log t neutral n o step requests))

  still_waits : (o : OpenTxn) (w : Option ℕ) → IsNeutral r log o.txn
      → ((n : ℕ) → w ≡ Some n → answer_of (r ∷ log) n ≡ answer_of log n) → Waits log o w → Waits (r ∷ log) o w
  still_waits o None neutral same h = still_idle o.txn neutral h
  still_waits o (Some n) neutral same h = record {
    request = request_kept r log o n h.request;
    unanswered = same n refl ∙ h.unanswered;
    only = λ m op step requests apart. answered_push m r log
        (h.only m op (steps_there r log o.txn neutral.no_step m step)
        (request_was r log o.txn neutral m op step requests) apart);
  }

  -- so it leaves another transaction's
  pub leaves_open : (o : OpenTxn) → IsNeutral r log o.txn
      → ((n : ℕ) → o.waiting ≡ Some n → answer_of (r ∷ log) n ≡ answer_of log n) → IsOpenTxn log o
      → IsOpenTxn (r ∷ log) o
  leaves_open o neutral same h = still_open r log o o.waiting neutral h (still_waits o o.waiting neutral same h.waits)

some_answer : (b : Bool) (a : Answer) (o : Option Answer) → b ≡ true → IsSome (cond b (Some a) o)
some_answer true a o h = refl
some_answer false a o h = absurd (cc)

-- the answer that is waited for makes the transaction idle
pub idle_now : (log : List Record) (o : OpenTxn) (n : ℕ) (a : Answer) → IsWaiting log o n
    → IsIdle (is.Answer n a ∷ log) o.txn
idle_now log o n a waits m op step requests =
    let r : Record = is.Answer n a in
    elim (cases_eq m (length log + 1)) [
      | inl e ↦ let none : AStep o.txn (Some r) = newest_at (AStep o.txn) r log m e step in absurd (cc)
      | inr e ↦ elim (cases_eq m n) [
        | inl same ↦ some_answer (m == n) a (answer_of log m) (eq-eqb m n same)
        | inr apart ↦ answered_push m r log
            (waits.only m op (older_at (AStep o.txn) r log m e step) (older_at (ARequest op) r log m e requests) apart)
      ]
    ]

-- a request that was just appended is the only one without an answer, where the transaction was idle
pub waits_now : (r : Record) (log : List Record) (t : ℕ) (o : OpenTxn) → o.txn ≡ t → IsIdle log t
    → IsRequest (r ∷ log) o (length log + 1)
    → answer_of (r ∷ log) (length log + 1) ≡ None → IsWaiting (r ∷ log) o (length log + 1)
waits_now r log t o is idle request unanswered = record {
  request = request;
  unanswered = unanswered;
  only = λ m op step requests apart. answered_push m r log
      (idle m op (let P : ℕ → Type 0 = λ x. IsStepOf log x m in subst P is (older_at (AStep o.txn) r log m apart step))
      (older_at (ARequest op) r log m apart requests));
}

-- a step that requests nothing leaves the transaction idle
pub idle_after : (r : Record) (log : List Record) (t : ℕ) → ((o : Op) → ARequest o (Some r) → ⊥) → IsIdle log t
    → IsIdle (r ∷ log) t
idle_after r log t none idle n o step requests =
    elim (cases_eq n (length log + 1)) [
      | inl e ↦ absurd (none o (newest_at (ARequest o) r log n e requests))
      | inr e ↦ answered_push n r log
          (idle n o (older_at (AStep t) r log n e step) (older_at (ARequest o) r log n e requests))
    ]
