-- What a transaction has left to undo: what stands at a number stands as long as a later one does, and two looks find
-- it.
use Rattle.std.proofs.Common.{◌≡◌, ◌≢◌, ℕ, ◌+◌, ◌<◌, ◌≤◌, true, List, [], ◌∷◌, length, Option, Some, refl, sym, ap, ◌∙◌, subst, arith, inl, inr, true≢false, eq-eqb, ne_eqb}
use Rattle.std.specs.Prelude.{◌||◌}
use Rattle.std.proofs.lemmas.Bool.{cases_eq, cases_Bool}
use Rattle.record_key.specs.declared.op.Op.{Op}
use Rattle.history.specs.declared.record.Record.{Record}
use Rattle.history.specs.declared.record.Record.TheVariants as is
use Rattle.history.specs.Log.{record_at, before, is_crossed, IsStepOf}
use Rattle.history.specs.Legal.{Fits, FitsOp, IsLegal, Stands, IsLatest, IsLatestOrNone}
use Rattle.history.specs.Chains.{undo_from, prev_in}
use Rattle.log_laws.specs.Laws.{UndoIsFound}
use Rattle.log_laws.proofs.Records.{AStep, AnOp, at_newest, newest_at, kept_at, IsNumber, which, not_newest, before_new, before_old, since, length_before, record_before, record_old}
use Rattle.log_laws.proofs.LegalLogs.{legal_before, fits_at, falls, crossed_push, uncrossed_next, step_number, stands_step, stands_number, stands_kept, stands_had}

-- the greatest number of one kind is that of another that has the same numbers
pub latest_as : (P Q : ℕ → Type 0) → ((n : ℕ) → P n → Q n) → ((n : ℕ) → Q n → P n) → (x : ℕ) → IsLatestOrNone P x
    → IsLatestOrNone Q x
latest_as h h2 there back x h3 = grind arith

-- a record that names a standing operation is a compensation of its transaction, and it is the latest
pub record CrossesNow (r : Record) (log : List Record) (t n : ℕ) : Type 0 where
  pub latest : IsLatest (Stands log t) n
  pub step : AStep t (Some r)

-- so it is, where the record fits
pub crosses_now : (r : Record) (log : List Record) (t n : ℕ) → Fits log r → Stands log t n
    → is_crossed (r ∷ log) n ≡ true → CrossesNow r log t n
crosses_now r log t n fits h c = grind arith

-- an operation names none
op_crosses_none : (r : Record) (log : List Record) (t n : ℕ) (o : Op) → AnOp t o (Some r)
    → is_crossed (r ∷ log) n ≡ is_crossed log n
op_crosses_none r log t n o h = grind arith

-- what stood before a standing operation of its transaction stands still
pub stands_since : (log : List Record) (t u n : ℕ) → IsLegal log → Stands log t u → n < u → Stands (before log u) t n
    → Stands log t n
stands_since [] t u n legal h below stood = grind (arith, stands_number)
stands_since (r ∷ log) t u n legal h below stood =
    elim (which r log u (stands_number (r ∷ log) t u h)) [
      | inl e ↦
          let then_stood : Stands log t n = subst (λ x. Stands x t n) (before_new r log u e) stood in
          stands_kept r log t n then_stood
          (op_crosses_none r log t n h.op (newest_at (AnOp t h.op) r log u e h.is) ∙ then_stood.uncrossed)
      | inr was ↦
          let later : Stands log t u = stands_had r log t u was h in
          let then_stood : Stands log t n =
          stands_since log t u n legal.1 later below
          (subst (λ x. Stands x t n) (before_old r log u (not_newest log u was)) stood) in
          elim (cases_Bool (is_crossed (r ∷ log) n)) [
            | inl c ↦ absurd (omega (
              arith,
              below,
              (crosses_now r log t n legal.0 then_stood c).latest.greatest u later,
            ))
            | inr c ↦ stands_kept r log t n then_stood c
          ]
    ]

-- what stands now stood then
pub stands_until : (log : List Record) (t u n : ℕ) → IsNumber log u → n < u → Stands log t n → Stands (before log u) t n
stands_until log t u n number below h =
    record {
      op = h.op;
      is = subst (AnOp t h.op) (sym (record_before log n u number below)) h.is;
      uncrossed = falls (is_crossed (before log u) n) (is_crossed log n)
          (since (λ x. is_crossed x n ≡ true) (crossed_push n) log u) h.uncrossed;
    }

-- a number of the log before another is below it
pub number_before : (log : List Record) (u n : ℕ) → IsNumber log u → IsNumber (before log u) n → n < u
number_before log u n number is = omega (arith, length_before log u number, is.bounded)

-- what the law says of one log
abbrev LatestIsFound : List Record → ℕ → Type 0
LatestIsFound log t = (s : ℕ) → IsLatestOrNone (IsStepOf log t) s
    → IsLatestOrNone (Stands log t) (undo_from (record_at log s) s)

-- the latest step, or 0, is at most the length
pub latest_number : (log : List Record) (t s : ℕ) → IsLatestOrNone (IsStepOf log t) s → s ≤ length log
latest_number log t s h = grind (arith, step_number)

-- the newest record is no step of the transaction: its steps are as they were
module _ (r : Record) (log : List Record) (t : ℕ) (other : AStep t (Some r) → ⊥) where
  pub steps_there : (n : ℕ) → IsStepOf (r ∷ log) t n → IsStepOf log t n
  steps_there n h = grind arith

  pub steps_back : (n : ℕ) → IsStepOf log t n → IsStepOf (r ∷ log) t n
  steps_back n h = kept_at (AStep t) r log n (step_number log n t h) h

-- and so is what stands
module _ (r : Record) (log : List Record) (t : ℕ) (other : AStep t (Some r) → ⊥) (fits : Fits log r) where
  pub stands_there : (n : ℕ) → Stands log t n → Stands (r ∷ log) t n
  stands_there n h = grind (arith, cases_Bool, crosses_now, stands_kept)

  pub stands_back : (n : ℕ) → Stands (r ∷ log) t n → Stands log t n
  stands_back n h = grind arith

  -- so what is left is found as it was
  found_older : LatestIsFound log t → LatestIsFound (r ∷ log) t
  found_older found s h =
      let was : IsLatestOrNone (IsStepOf log t) s =
      latest_as (IsStepOf (r ∷ log) t) (IsStepOf log t) (steps_there r log t other) (steps_back r log t other) s
      h in
      subst (λ x. IsLatestOrNone (Stands (r ∷ log) t) (undo_from x s))
      (sym (record_old r log s (λ e. omega (arith, latest_number log t s was))))
      (latest_as (Stands log t) (Stands (r ∷ log) t) stands_there stands_back (undo_from (record_at log s) s)
      (found s was))

-- the newest step is the newest record
newest_latest : (r : Record) (log : List Record) (t s : ℕ) → AStep t (Some r) → IsLatestOrNone (IsStepOf (r ∷ log) t) s
    → s ≡ length log + 1
newest_latest r log t s step (inl h) =
    omega (
      arith,
      (step_number (r ∷ log) s t h.is).bounded,
      h.greatest (length log + 1) (at_newest (AStep t) r log (length log + 1) refl step),
    )
newest_latest r log t s step (inr h) =
    absurd (h.1 (length log + 1) (at_newest (AStep t) r log (length log + 1) refl step))

-- after an operation, the operation itself is left
found_op : (log : List Record) (t p : ℕ) (o : Op) → IsLegal log → LatestIsFound (is.Op t p o ∷ log) t
found_op log t p o legal s h =
    let r : Record = is.Op t p o in
    let e : s ≡ length log + 1 = newest_latest r log t s refl h in
    at_newest (λ x. IsLatestOrNone (Stands (r ∷ log) t) (undo_from x s)) r log s e (inl (record {
      is = record {
        op = o;
        is = at_newest (AnOp t o) r log s e refl;
        uncrossed = ap (is_crossed log) e ∙ uncrossed_next log legal;
      };
      greatest = λ m stands. omega (arith, e, (stands_number (r ∷ log) t m stands).bounded);
    }))

-- after a compensation, what stood below the operation that it names
left_there : (log : List Record) (t w x : ℕ) (i : Option Op) (n : ℕ) → Stands log t n × (n < w)
    → Stands (is.Comp t w x i ∷ log) t n
left_there log t w x i n h = grind (arith, stands_kept, ne_eqb)

left_back : (log : List Record) (t w x : ℕ) (i : Option Op) → IsLatest (Stands log t) w → (n : ℕ)
    → Stands (is.Comp t w x i ∷ log) t n → Stands log t n × (n < w)
left_back log t w x i latest n h =
    let r : Record = is.Comp t w x i in
    elim (which r log n (stands_number (r ∷ log) t n h)) [
      | inl e ↦ let none : AnOp t h.op (Some r) = newest_at (AnOp t h.op) r log n e h.is in absurd (cc)
      | inr was ↦
          let stood : Stands log t n = stands_had r log t n was h in
          let apart : n ≢ w = λ e. true≢false (sym (ap (λ b. b || is_crossed log n) (eq-eqb n w e)) ∙ h.uncrossed) in
          (stood, omega (arith, apart, latest.greatest n stood))
    ]

-- so its undo-next is what is left
found_comp : (log : List Record) (t w x : ℕ) (i : Option Op) → Fits log (is.Comp t w x i)
    → LatestIsFound (is.Comp t w x i ∷ log) t
found_comp log t w x i fits s h =
    let r : Record = is.Comp t w x i in
    let e : s ≡ length log + 1 = newest_latest r log t s refl h in
    at_newest (λ z. IsLatestOrNone (Stands (r ∷ log) t) (undo_from z s)) r log s e
    (latest_as (λ n. Stands log t n × (n < w)) (Stands (r ∷ log) t) (left_there log t w x i)
    (left_back log t w x i fits.latest) x fits.next)

-- so one look finds it after any record that fits
found_next : (r : Record) (log : List Record) (t : ℕ) → Fits log r → IsLegal log → LatestIsFound log t
    → LatestIsFound (r ∷ log) t
found_next (is.Op u p o) log t fits legal found =
    elim (cases_eq u t) [
      | inl e ↦ subst (λ (z : ℕ). LatestIsFound (is.Op u p o ∷ log) z) e (found_op log u p o legal)
      | inr other ↦ found_older (is.Op u p o) log t (λ s. other (cc)) fits found
    ]
found_next (is.Comp u w x i) log t fits legal found =
    elim (cases_eq u t) [
      | inl e ↦ subst (λ (z : ℕ). LatestIsFound (is.Comp u w x i ∷ log) z) e (found_comp log u w x i fits)
      | inr other ↦ found_older (is.Comp u w x i) log t (λ s. other (cc)) fits found
    ]
found_next r log t fits legal found = found_older r log t (λ s. cc) fits found

-- and in every legal log
pub latest_found : (log : List Record) (t : ℕ) → IsLegal log → LatestIsFound log t
latest_found [] t legal s (inl h) = grind (arith, step_number)
latest_found [] t legal s (inr h) = inr (refl, λ m stands. h.1 m (stands_step [] t m stands))
latest_found (r ∷ log) t legal s h = found_next r log t legal.0 legal.1 (latest_found log t legal.1) s h

-- the record of an operation
pub op_record : (t : ℕ) (o : Op) (r : Option Record) → AnOp t o r → (p : ℕ) × (r ≡ Some (is.Op t p o))
op_record t o r h = grind arith

-- before a standing operation that same look finds what is left below it
pub earlier_found : (log : List Record) (t u : ℕ) → IsLegal log → Stands log t u
    → IsLatestOrNone (λ n. Stands log t n × (n < u))
    (undo_from (record_at log (prev_in (record_at log u))) (prev_in (record_at log u)))
earlier_found log t u legal h =
    let left : ℕ → Type 0 = λ n. Stands log t n × (n < u) in
    let number : IsNumber log u = stands_number log t u h in
    let the_op = op_record t h.op (record_at log u) h.is in
    let p : ℕ = the_op.0 in
    let fits : FitsOp (before log u) t p h.op = fits_at log u (is.Op t p h.op) legal the_op.1 in
    let found : IsLatestOrNone (Stands (before log u) t) (undo_from (record_at (before log u) p) p) =
    latest_found (before log u) t (legal_before log u legal) p fits.prev in
    let below : p < u = omega (arith, latest_number (before log u) t p fits.prev, length_before log u number) in
    let there : IsLatestOrNone left (undo_from (record_at (before log u) p) p) =
    latest_as (Stands (before log u) t) left
    (λ n stood. let lower : n < u = number_before log u n number (stands_number (before log u) t n stood) in
    (stands_since log t u n legal h lower stood, lower))
    (λ n l. stands_until log t u n number l.1 l.0) (undo_from (record_at (before log u) p) p) found in
    subst (λ (z : ℕ). IsLatestOrNone left (undo_from (record_at log z) z)) (sym (ap prev_in the_op.1))
    (subst (λ z. IsLatestOrNone left (undo_from z p)) (record_before log p u number below) there)

-- the law
pub undo_is_found : UndoIsFound
undo_is_found log t legal = record { latest = latest_found log t legal; earlier = λ u h. earlier_found log t u legal h }
