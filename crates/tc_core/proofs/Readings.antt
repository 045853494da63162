-- The reads that open transactions wait for, when one is added, replaced or ends.
use Rattle.std.proofs.Common.{◌≡◌, ◌≢◌, ℕ, ◌<◌, ◌≤◌, List, ◌∷◌, Option, Some, None, refl, sym, ◌∙◌, subst, arith, inl, inr}
use Rattle.std.proofs.lemmas.Bool.{cases_eq}
use Rattle.tc_locks.specs.Locks.{LocksView, spans_of}
use Rattle.tc_core.specs.declared.open_txn.OpenTxn.{OpenTxn}
use Rattle.tc_core.specs.declared.open_txn.Read.{Read}
use Rattle.tc_core.specs.OpenTxns.{find, replace, without}
use Rattle.tc_core.specs.Kept.{IsReading, AreReading}
use Rattle.tc_core.proofs.Finding.{found_number, find_here, find_there, replaced_same, replaced_other, without_same, without_other}

-- whoever waits for an answer, or is being rolled back, waits for no read
pub no_reading : (x : Option Read) → ((r : Read) → x ≡ Some r → ⊥) → x ≡ None
no_reading None h = refl
no_reading (Some r) h = absurd (h r refl)

-- a read stays, where its transaction's spans stay
still_reads : (reads reads2 : ℕ) (locks locks2 : LocksView) (o : OpenTxn) (r : Read) → reads ≤ reads2
    → spans_of locks2 o.txn ≡ spans_of locks o.txn
    → IsReading reads locks o r → IsReading reads2 locks2 o r
still_reads reads reads2 locks locks2 o r more same h = record {
  idle = h.idle;
  flat = h.flat;
  asked = omega (arith, h.asked, more);
  range = h.range;
  before = h.before;
  held = same ∙ h.held;
}

module _ (reads : ℕ) (os : List OpenTxn) (locks : LocksView) (k : AreReading reads os locks) where
  found_new : (new p : OpenTxn) (os2 : List OpenTxn) → find new.txn os2 ≡ Some new → (t : ℕ) → t ≡ new.txn
      → find t os2 ≡ Some p → new ≡ p
  found_new new p os2 at t same found =
      let P : ℕ → Type 0 = λ u. find u os2 ≡ Some p in
      let equal : Some new ≡ Some p = sym at ∙ subst P same found in cc

  -- one is changed or added, with its spans
  changed : (new : OpenTxn) (reads2 : ℕ) (os2 : List OpenTxn) (locks2 : LocksView) → find new.txn os2 ≡ Some new
      → reads ≤ reads2
      → ((u : ℕ) → u ≢ new.txn → find u os2 ≡ find u os)
      → ((u : ℕ) → u ≢ new.txn → spans_of locks2 u ≡ spans_of locks u)
      → ((r : Read) → new.reading ≡ Some r → IsReading reads2 locks2 new r × (reads < r.number))
      → AreReading reads2 os2 locks2
  changed new reads2 os2 locks2 at more others spans own = record {
    each = λ t p r found reading. elim (cases_eq t new.txn) [
      | inl same ↦
          let P : OpenTxn → Type 0 = λ x. x.reading ≡ Some r → IsReading reads2 locks2 x r in
          subst P (found_new new p os2 at t same found) (λ h. (own r h).0) reading
      | inr other ↦
          let there : find t os ≡ Some p = sym (others t other) ∙ found in
          still_reads reads reads2 locks locks2 p r more
          (spans p.txn (λ e. other (sym (found_number t os p there) ∙ e))) (k.each t p r there reading)
    ];
    apart = λ t u p q r s found_p found_q reads_p reads_q same_number. elim (cases_eq t new.txn) [
      | inl same_t ↦ elim (cases_eq u new.txn) [
        | inl same_u ↦ same_t ∙ sym same_u
        | inr other_u ↦ absurd (omega (
          arith,
          same_number,
          above p r t same_t found_p reads_p,
          (k.each u q s (sym (others u other_u) ∙ found_q) reads_q).asked,
        ))
      ]
      | inr other_t ↦ elim (cases_eq u new.txn) [
        | inl same_u ↦ absurd (omega (
          arith,
          same_number,
          above q s u same_u found_q reads_q,
          (k.each t p r (sym (others t other_t) ∙ found_p) reads_p).asked,
        ))
        | inr other_u ↦ k.apart t u p q r s (sym (others t other_t) ∙ found_p) (sym (others u other_u) ∙ found_q)
            reads_p reads_q same_number
      ]
    ];
  }
    where
      above : (p : OpenTxn) (r : Read) (t : ℕ) → t ≡ new.txn → find t os2 ≡ Some p → p.reading ≡ Some r
          → reads < r.number
      above p r t same found reading =
          let P : OpenTxn → Type 0 = λ x. x.reading ≡ Some r → reads < r.number in
          subst P (found_new new p os2 at t same found) (λ h. (own r h).1) reading

  -- nothing is asked, and who is open holds what it held
  pub reads_kept : (locks2 : LocksView)
      → ((t : ℕ) (o : OpenTxn) → find t os ≡ Some o → spans_of locks2 o.txn ≡ spans_of locks o.txn)
      → AreReading reads os locks2
  reads_kept locks2 same = record {
    each = λ t o r at some. still_reads reads reads locks locks2 o r (omega arith) (same t o at) (k.each t o r at some);
    apart = k.apart;
  }

  -- one that waits for no read is put in another's place
  pub reads_replaced : (new o : OpenTxn) (locks2 : LocksView) → find new.txn os ≡ Some o → new.reading ≡ None
      → ((u : ℕ) → u ≢ new.txn → spans_of locks2 u ≡ spans_of locks u) → AreReading reads (replace new os) locks2
  reads_replaced new o locks2 at none spans =
      changed new reads (replace new os) locks2 (replaced_same new o os at) (omega arith)
      (λ u other. replaced_other new os u other) spans (λ r some. absurd (cc))

  -- one asks for the next read
  pub reads_asked : (new o : OpenTxn) (r : Read) (reads2 : ℕ) (locks2 : LocksView) → find new.txn os ≡ Some o
      → new.reading ≡ Some r → reads ≤ reads2 → reads < r.number
      → ((u : ℕ) → u ≢ new.txn → spans_of locks2 u ≡ spans_of locks u) → IsReading reads2 locks2 new r
      → AreReading reads2 (replace new os) locks2
  reads_asked new o r reads2 locks2 at some more above spans h =
      changed new reads2 (replace new os) locks2 (replaced_same new o os at) more
      (λ u other. replaced_other new os u other) spans
      (λ q is. let same : r ≡ q = let e : Some r ≡ Some q = sym some ∙ is in cc in
      let P : Read → Type 0 = λ x. IsReading reads2 locks2 new x × (reads < x.number) in subst P same (h, above))

  -- one begins
  pub reads_begun : (new : OpenTxn) → new.reading ≡ None → AreReading reads (new ∷ os) locks
  reads_begun new none =
      changed new reads (new ∷ os) locks (find_here new os new.txn refl) (omega arith)
      (λ u other. find_there new os u (λ e. other (sym e))) (λ u other. refl) (λ r some. absurd (cc))

  -- one ends
  pub reads_ended : (t : ℕ) (locks2 : LocksView) → ((u : ℕ) → u ≢ t → spans_of locks2 u ≡ spans_of locks u)
      → AreReading reads (without t os) locks2
  reads_ended t locks2 spans = record {
    each = λ u p r found reading.
        let was : (u ≢ t) × (find u os ≡ Some p) = still u p found in
        still_reads reads reads locks locks2 p r (omega arith)
        (spans p.txn (λ e. was.0 (sym (found_number u os p was.1) ∙ e))) (k.each u p r was.1 reading);
    apart = λ u v p q r s found_p found_q. k.apart u v p q r s (still u p found_p).1 (still v q found_q).1;
  }
    where
      still : (u : ℕ) (p : OpenTxn) → find u (without t os) ≡ Some p → (u ≢ t) × (find u os ≡ Some p)
      still u p found = elim (cases_eq u t) [
        | inl same ↦ let P : ℕ → Type 0 = λ n. find n (without t os) ≡ None in
            let none : find u (without t os) ≡ None = subst P (sym same) (without_same t os) in absurd (cc)
        | inr other ↦ (other, sym (without_other t os u other) ∙ found)
      ]
