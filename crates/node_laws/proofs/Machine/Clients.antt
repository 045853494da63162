-- What clients see of the transaction component, after one of its transactions changed.
use Rattle.std.proofs.Common.{◌≡◌, ◌≢◌, ℕ, List, Some, None, sym, ap, ◌∙◌, inl, inr, ◌⊎◌}
use Rattle.std.proofs.lemmas.Bool.{cases_eq}
use Rattle.history.specs.Spans.{Span}
use Rattle.simulation.specs.View.{Doing, Ready, Awaits, Looks, Rolls}
use Rattle.simulation.specs.Running.{put}
use Rattle.simulation.proofs.Doings.{put_same, put_other}
use Rattle.tc_locks.specs.Locks.{LocksView, spans_of, set_spans, IsTable}
use Rattle.tc_locks.proofs.Tables.{set_own, set_other}
use Rattle.tc_core.specs.declared.open_txn.OpenTxn.{OpenTxn}
use Rattle.tc_core.specs.declared.open_txn.Read.{Read}
use Rattle.tc_core.specs.declared.open_txn.Rollback.{Rollback}
use Rattle.tc_core.specs.OpenTxns.{find, replace, without}
use Rattle.tc_core.specs.Causes.{saves_of}
use Rattle.tc_core.proofs.Finding.{replaced_other, replaced_same, without_same, without_other}
use Rattle.node_laws.specs.Simulation.{query_of, rolling_as, reading_as, waiting_as, doing_of, doing_in}

-- a function with another value at one number
pub put_is : {A : Type 0} → (f g : ℕ → A) (t : ℕ) (x : A) → g t ≡ x → ((u : ℕ) → u ≢ t → g u ≡ f u) → (u : ℕ)
    → put f t x u ≡ g u
put_is f g t x here there u = elim (cases_eq u t) [
  | inl e ↦ ap (put f t x) e ∙ put_same f t x ∙ sym here ∙ ap g (sym e)
  | inr apart ↦ put_other f t x u apart ∙ sym (there u apart)
]

-- the same function where the value is the same
pub same_is : {A : Type 0} → (f g : ℕ → A) (t : ℕ) → g t ≡ f t → ((u : ℕ) → u ≢ t → g u ≡ f u) → (u : ℕ) → f u ≡ g u
same_is f g t here there u =
    elim (cases_eq u t) [ inl e ↦ ap f e ∙ sym here ∙ ap g (sym e) | inr apart ↦ sym (there u apart) ]

-- a transaction that was found is found in its new state
module _ (os : List OpenTxn) (new o : OpenTxn) (at : find new.txn os ≡ Some o) where
  pub doing_now : (d : Doing) → doing_of new ≡ d → (u : ℕ)
      → put (λ t. doing_in (find t os)) new.txn (Some d) u ≡ doing_in (find u (replace new os))
  doing_now d is =
      put_is (λ t. doing_in (find t os)) (λ t. doing_in (find t (replace new os))) new.txn (Some d)
      (ap doing_in (replaced_same new o os at) ∙ ap Some is) (λ u apart. ap doing_in (replaced_other new os u apart))

  pub doing_kept : doing_of new ≡ doing_of o → (u : ℕ) → doing_in (find u os) ≡ doing_in (find u (replace new os))
  doing_kept same =
      same_is (λ t. doing_in (find t os)) (λ t. doing_in (find t (replace new os))) new.txn
      (ap doing_in (replaced_same new o os at) ∙ ap Some same ∙ sym (ap doing_in at))
      (λ u apart. ap doing_in (replaced_other new os u apart))

  pub saves_replaced : (u : ℕ)
      → put (λ t. saves_of (find t os)) new.txn new.saves u ≡ saves_of (find u (replace new os))
  saves_replaced =
      put_is (λ t. saves_of (find t os)) (λ t. saves_of (find t (replace new os))) new.txn new.saves
      (ap saves_of (replaced_same new o os at)) (λ u apart. ap saves_of (replaced_other new os u apart))

  pub saves_kept : new.saves ≡ o.saves → (u : ℕ) → saves_of (find u os) ≡ saves_of (find u (replace new os))
  saves_kept same =
      same_is (λ t. saves_of (find t os)) (λ t. saves_of (find t (replace new os))) new.txn
      (ap saves_of (replaced_same new o os at) ∙ same ∙ sym (ap saves_of at))
      (λ u apart. ap saves_of (replaced_other new os u apart))

-- one that is gone does nothing
pub doing_without : (os : List OpenTxn) (t u : ℕ)
    → put (λ v. doing_in (find v os)) t None u ≡ doing_in (find u (without t os))
doing_without os t =
    put_is (λ v. doing_in (find v os)) (λ v. doing_in (find v (without t os))) t None
    (ap doing_in (without_same t os)) (λ u apart. ap doing_in (without_other t os u apart))

-- and others keep their savepoints
pub saves_without : (os : List OpenTxn) (t u : ℕ) → (saves_of (find u (without t os)) ≡ saves_of (find u os)) ⊎ (u ≡ t)
saves_without os t u = elim (cases_eq u t)
    [ inl e ↦ inr e | inr apart ↦ inl (ap saves_of (without_other t os u apart)) ]

-- one that takes spans, and one that lets go of all
pub spans_put : (locks : LocksView) (t : ℕ) (ss : List Span) → IsTable locks → (u : ℕ)
    → put (λ v. spans_of locks v) t ss u ≡ spans_of (set_spans t ss locks) u
spans_put locks t ss table =
    put_is (λ v. spans_of locks v) (λ v. spans_of (set_spans t ss locks) v) t ss
    (set_own t ss locks table) (λ u apart. set_other t ss locks u table apart)

-- what an idle, a waiting and a reading transaction does
pub rests : (o : OpenTxn) → o.rolling ≡ None → o.reading ≡ None → o.waiting ≡ None → doing_of o ≡ Ready
rests o flat none still =
    ap (λ r. rolling_as r (reading_as o.reading (waiting_as o.waiting))) flat
    ∙ ap (λ r. reading_as r (waiting_as o.waiting)) none ∙ ap waiting_as still

pub awaits : (o : OpenTxn) (n : ℕ) → o.rolling ≡ None → o.reading ≡ None → o.waiting ≡ Some n → doing_of o ≡ Awaits n
awaits o n flat none some =
    ap (λ r. rolling_as r (reading_as o.reading (waiting_as o.waiting))) flat
    ∙ ap (λ r. reading_as r (waiting_as o.waiting)) none ∙ ap waiting_as some

pub looks : (o : OpenTxn) (r : Read) → o.rolling ≡ None → o.reading ≡ Some r → doing_of o ≡ Looks (query_of r.span)
looks o r flat some =
    ap (λ x. rolling_as x (reading_as o.reading (waiting_as o.waiting))) flat
    ∙ ap (λ x. reading_as x (waiting_as o.waiting)) some

pub rolls : (o : OpenTxn) (r : Rollback) → o.rolling ≡ Some r → doing_of o ≡ Rolls r.savepoint r.above
rolls o r some = ap (λ x. rolling_as x (reading_as o.reading (waiting_as o.waiting))) some
