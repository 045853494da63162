-- The open transactions that are kept, when one is added, replaced or ends.
use Rattle.std.proofs.Common.{◌≡◌, ◌≢◌, ℕ, ◌+◌, ◌<◌, ◌≤◌, List, [], ◌∷◌, length, ◌⊎◌, Some, None, is_some, refl, sym, ap, ◌∙◌, subst, arith, inl, inr}
use Rattle.std.proofs.lemmas.Bool.{cases_eq}
use Rattle.history.specs.declared.record.Record.{Record}
use Rattle.history.specs.Log.{IsOpen}
use Rattle.log_laws.proofs.LegalLogs.{begun_number}
use Rattle.tc_core.specs.declared.open_txn.OpenTxn.{OpenTxn}
use Rattle.tc_core.specs.OpenTxns.{find, replace, without, AreBelow, AreFalling}
use Rattle.tc_core.specs.Kept.{IsOpenTxn, AreOpen}
use Rattle.tc_core.proofs.Finding.{found_number, found_own, find_here, find_there, replaced_same, replaced_other, replaced_length, replaced_falls, without_same, without_other, without_falls, without_length}
use Rattle.tc_core.proofs.HeldSpans.{is_some_replaced}

-- an open transaction has a number of the log
open_number : (log : List Record) (below : ℕ) (os : List OpenTxn) → AreOpen log below os → (t : ℕ) (o : OpenTxn)
    → find t os ≡ Some o
    → t ≤ length log
open_number log below os k t o at =
    omega (arith, (begun_number log o.txn (k.each t o at).is.begun).bounded, found_number t os o at)

below_more : (os : List OpenTxn) (t u : ℕ) → t ≤ u → AreBelow t os → AreBelow u os
below_more [] t u le below = tt
below_more (o ∷ os) t u le below = (omega (arith, below.0, le), below_more os t u le below.1)

-- so all of them do
below_next : (log : List Record) (os : List OpenTxn) → ((t : ℕ) (o : OpenTxn) → find t os ≡ Some o → t ≤ length log)
    → AreFalling os → AreBelow (length log + 1) os
below_next log [] bounded falls = tt
below_next log (o ∷ os) bounded falls =
    let bound : o.txn ≤ length log = bounded o.txn o (find_here o os o.txn refl) in
    (omega (arith, bound), below_more os o.txn (length log + 1) (omega (arith, bound)) falls.0)

pub open_below : (log : List Record) (below : ℕ) (os : List OpenTxn) → AreOpen log below os
    → AreBelow (length log + 1) os
open_below log below os k = below_next log os (open_number log below os k) k.order

module _ (log log2 : List Record) (below : ℕ) (os : List OpenTxn) (k : AreOpen log below os) where
  -- nobody begins, and nobody ends
  pub same_open : ((o : OpenTxn) → find o.txn os ≡ Some o → IsOpenTxn log o → IsOpenTxn log2 o)
      → ((t : ℕ) → IsOpen log2 t → IsOpen log t)
      → AreOpen log2 below os
  same_open kept was = record {
    each = λ t o at. kept o (found_own t os o at) (k.each t o at);
    late = k.late;
    all = λ t h late. k.all t (was t h) late;
    order = k.order;
    few = k.few;
  }

  -- one has another in its place
  pub replaced_open : (new o : OpenTxn) → find new.txn os ≡ Some o → IsOpenTxn log2 new
      → ((p : OpenTxn) → p.txn ≢ new.txn → IsOpenTxn log p → IsOpenTxn log2 p)
      → ((t : ℕ) → IsOpen log2 t → IsOpen log t) → AreOpen log2 below (replace new os)
  replaced_open new o at is_new kept was = record {
    each = λ t p found. elim (cases_eq t new.txn) [
      | inl same ↦
          let P : ℕ → Type 0 = λ u. find u (replace new os) ≡ Some p in
          let equal : Some new ≡ Some p = sym (replaced_same new o os at) ∙ subst P same found in
          let e : new ≡ p = cc in subst (IsOpenTxn log2) e is_new
      | inr apart ↦
          let there : find t os ≡ Some p = sym (replaced_other new os t apart) ∙ found in
          kept p (λ e. apart (sym (found_number t os p there) ∙ e)) (k.each t p there)
    ];
    late = λ t p found. elim (cases_eq t new.txn) [
      | inl same ↦ let P : ℕ → Type 0 = λ u. below ≤ u in subst P (sym same) (k.late new.txn o at)
      | inr apart ↦ k.late t p (sym (replaced_other new os t apart) ∙ found)
    ];
    all = λ t h late. is_some_replaced new o os at t ∙ k.all t (was t h) late;
    order = replaced_falls new os k.order;
    few = omega (arith, k.few, replaced_length new os);
  }

  -- one begins
  pub added_open : (new : OpenTxn) → new.txn ≡ length log + 1 → below ≤ length log + 1 → length os < 64
      → IsOpenTxn log2 new
      → ((p : OpenTxn) → IsOpenTxn log p → IsOpenTxn log2 p)
      → ((t : ℕ) → IsOpen log2 t → (t ≡ new.txn) ⊎ IsOpen log t) → AreOpen log2 below (new ∷ os)
  added_open new number bound less is_new kept was = record {
    each = λ t p found. elim (cases_eq new.txn t) [
      | inl same ↦
          let equal : Some new ≡ Some p = sym (find_here new os t same) ∙ found in
          let e : new ≡ p = cc in subst (IsOpenTxn log2) e is_new
      | inr apart ↦ kept p (k.each t p (sym (find_there new os t apart) ∙ found))
    ];
    late = λ t p found. elim (cases_eq new.txn t) [
      | inl same ↦ omega (arith, number, bound, same)
      | inr apart ↦ k.late t p (sym (find_there new os t apart) ∙ found)
    ];
    all = λ t h late. elim (cases_eq new.txn t) [
      | inl same ↦ ap is_some (find_here new os t same)
      | inr apart ↦ elim (was t h)
          [ inl e ↦ absurd (apart (sym e)) | inr had ↦ ap is_some (find_there new os t apart) ∙ k.all t had late ]
    ];
    order = (let P : ℕ → Type 0 = λ n. AreBelow n os in subst P (sym number) (open_below log below os k), k.order);
    few = omega (arith, less);
  }

  -- one ends
  pub without_open : (t : ℕ) → ((p : OpenTxn) → p.txn ≢ t → IsOpenTxn log p → IsOpenTxn log2 p)
      → ((u : ℕ) → IsOpen log2 u → (u ≢ t) × IsOpen log u) → AreOpen log2 below (without t os)
  without_open t kept was = record {
    each = λ u p found. elim (cases_eq u t) [
      | inl same ↦ let none : find u (without t os) ≡ None = let P : ℕ → Type 0 = λ n. find n (without t os) ≡ None in
          subst P (sym same) (without_same t os) in absurd (cc)
      | inr apart ↦
          let there : find u os ≡ Some p = sym (without_other t os u apart) ∙ found in
          kept p (λ e. apart (sym (found_number u os p there) ∙ e)) (k.each u p there)
    ];
    late = λ u p found. elim (cases_eq u t) [
      | inl same ↦ let none : find u (without t os) ≡ None = let P : ℕ → Type 0 = λ n. find n (without t os) ≡ None in
          subst P (sym same) (without_same t os) in absurd (cc)
      | inr apart ↦ k.late u p (sym (without_other t os u apart) ∙ found)
    ];
    all = λ u h late. ap is_some (without_other t os u (was u h).0) ∙ k.all u (was u h).1 late;
    order = without_falls t os k.order;
    few = omega (arith, k.few, without_length t os);
  }
