-- What a beginning of a log has of the whole.
use Rattle.std.proofs.Common.{rules, ◌≡◌, ℕ, ◌+◌, ◌<◌, ◌≤◌, Bool, true, false, List, [], ◌∷◌, ◌++◌, length, length-append, Option, Some, None, IsSome, refl, sym, ap, ◌∙◌, subst, arith, inl, inr, ◌⊎◌, true≢false}
use Rattle.std.specs.Prelude.{◌&&◌, not}
use Rattle.std.proofs.lemmas.Bool.{cases_lt, cases_Bool}
use Rattle.record_key.specs.declared.op.Op.{Op}
use Rattle.history.specs.declared.record.Record.{Record}
use Rattle.history.specs.declared.record.Record.TheVariants as is
use Rattle.history.specs.Log.{record_at, answer_of, is_crossed, has_ended, IsOpen, IsOpBy}
use Rattle.history.specs.Legal.{Fits, IsLegal, Stands}
use Rattle.history.specs.Chains.{IsEndOf}
use Rattle.log_laws.proofs.Records.{AStep, AnOp, op_step, op_request, newest_at, at_older, at_newest, had_at, IsNumber, which, not_newest, within, record_old}
use Rattle.log_laws.proofs.LegalLogs.{ended_push, ended_cases, crossed_push, answered_push, op_number, step_open, begun_number, legal_end}
use Rattle.log_laws.proofs.Strict.{AnEnd, end_ends, end_number, ended_answered}
use Rattle.log_laws.proofs.Compensations.{ended_crosses_none}
use Rattle.simulation.specs.View.{IsOver, is_begin, is_left_open}

-- a number of the beginning has there the record that it has in the whole
pub record_same : (newer older : List Record) (n : ℕ) → n ≤ length older
    → record_at (newer ++ older) n ≡ record_at older n
record_same [] older n h = refl
record_same (r ∷ newer) older n h =
    record_old r (newer ++ older) n (λ e. omega (arith, e, h, length-append newer older)) ∙ record_same newer older n h

-- who has ended in the beginning has in the whole
pub ended_longer : (newer older : List Record) (t : ℕ) → has_ended older t ≡ true → has_ended (newer ++ older) t ≡ true
ended_longer [] older t h = h
ended_longer (r ∷ newer) older t h = ended_push t r (newer ++ older) (ended_longer newer older t h)

-- an ended transaction has its end at a number
pub record EndsAt (log : List Record) (t : ℕ) : Type 0 where
  pub end : ℕ
  pub is_end : IsEndOf log t end

pub end_at : (log : List Record) (t : ℕ) → has_ended log t ≡ true → EndsAt log t
end_at [] t h = absurd (true≢false (sym h))
end_at (r ∷ log) t h =
    elim (ended_cases t r log h) [
      | inl ago ↦
          let was = end_at log t ago in
          search (
            rules,
            arith,
            at_older (AnEnd t) r log was.end (not_newest log was.end (end_number log t was.end was.is_end)) was.is_end,
          )
      | inr now ↦ record { end = length log + 1; is_end = at_newest (AnEnd t) r log (length log + 1) refl (some now) }
    ]
  where
    some : (r ≡ is.Commit t) ⊎ (r ≡ is.End t) → AnEnd t (Some r)
    some (inl e) = inl (ap Some e)
    some (inr e) = inr (ap Some e)

-- where an end fits, nothing ended the transaction before
end_open : (r : Record) (log : List Record) (t : ℕ) → Fits log r → AnEnd t (Some r) → IsOpen log t
end_open r log t fits h = grind arith

-- so it has one end
pub one_end : (log : List Record) (t n m : ℕ) → IsLegal log → IsEndOf log t n → IsEndOf log t m → n ≡ m
one_end [] t n m legal p q = grind arith
one_end (r ∷ log) t n m legal p q =
    elim (which r log n (end_number (r ∷ log) t n p)) [
      | inl e ↦ elim (which r log m (end_number (r ∷ log) t m q)) [
        | inl f ↦ e ∙ sym f
        | inr f ↦ absurd (apart n m e f p q)
      ]
      | inr e ↦ elim (which r log m (end_number (r ∷ log) t m q)) [
        | inl f ↦ absurd (apart m n f e q p)
        | inr f ↦ one_end log t n m legal.1 (had_at (AnEnd t) r log n e p) (had_at (AnEnd t) r log m f q)
      ]
    ]
  where
    apart : (n m : ℕ) → n ≡ length log + 1 → IsNumber log m → IsEndOf (r ∷ log) t n → IsEndOf (r ∷ log) t m → ⊥
    apart n m e f p q =
        true≢false (sym (end_ends log t m (had_at (AnEnd t) r log m f q))
        ∙ (end_open r log t legal.0 (newest_at (AnEnd t) r log n e p)).goes_on)

-- who has its end above the beginning has not ended there
pub not_ended : (newer older : List Record) (t n : ℕ) → IsLegal (newer ++ older) → IsEndOf (newer ++ older) t n
    → length older < n → has_ended older t ≡ false
not_ended newer older t n legal is above =
    elim (cases_Bool (has_ended older t)) [
      | inl ended ↦
          let was = end_at older t ended in
          let bounded = (end_number older t was.end was.is_end).bounded in
          let there : IsEndOf (newer ++ older) t was.end =
          subst (AnEnd t) (sym (record_same newer older was.end bounded)) was.is_end in
          absurd (omega (arith, one_end (newer ++ older) t n was.end legal is there, bounded, above))
      | inr h ↦ h
    ]

-- an operation of who has ended in the beginning is answered there, and neither its answer nor its crossing changes
pub record IsSettledOp (newer older : List Record) (n : ℕ) : Type 0 where
  pub answer : answer_of (newer ++ older) n ≡ answer_of older n
  pub crossed : is_crossed (newer ++ older) n ≡ is_crossed older n

answer_stays : (r : Record) (log : List Record) (n : ℕ) → Fits log r → IsSome (answer_of log n)
    → answer_of (r ∷ log) n ≡ answer_of log n
answer_stays r log n fits some = grind arith

-- an operation of the beginning is one of the whole
pub op_longer : (newer older : List Record) (n t : ℕ) (o : Op) → IsOpBy older n t o → IsOpBy (newer ++ older) n t o
op_longer newer older n t o by =
    subst (AnOp t o) (sym (record_same newer older n (op_number older n t o by).bounded)) by

pub op_shorter : (newer older : List Record) (n t : ℕ) (o : Op) → n ≤ length older → IsOpBy (newer ++ older) n t o
    → IsOpBy older n t o
op_shorter newer older n t o within by = subst (AnOp t o) (record_same newer older n within) by

answered_longer : (newer older : List Record) (n : ℕ) → IsSome (answer_of older n)
    → IsSome (answer_of (newer ++ older) n)
answered_longer [] older n h = h
answered_longer (r ∷ newer) older n h = answered_push n r (newer ++ older) (answered_longer newer older n h)

settled_in : (newer older : List Record) (n t : ℕ) (o : Op) → IsLegal (newer ++ older) → IsOpBy older n t o
    → has_ended older t ≡ true → IsSome (answer_of older n) → IsSettledOp newer older n
settled_in [] older n t o legal by ended some = record { answer = refl; crossed = refl }
settled_in (r ∷ newer) older n t o legal by ended some =
    grind (
      arith,
      settled_in newer older n t o legal.1 by ended some,
      answer_stays,
      answered_longer,
      ended_crosses_none,
      op_longer,
      ended_longer,
    )

pub settled_op : (newer older : List Record) (n t : ℕ) (o : Op) → IsLegal (newer ++ older) → IsOpBy older n t o
    → has_ended older t ≡ true → IsSettledOp newer older n
settled_op newer older n t o legal by ended =
    settled_in newer older n t o legal by ended
    (ended_answered older t n o (legal_end newer older legal) ended (op_step t o (record_at older n) by)
    (op_request t o (record_at older n) by))

-- whoever is rolled back wholly has all of its operations named by compensations
pub undone_wholly : (log : List Record) (t e n : ℕ) (o : Op) → IsLegal log → record_at log e ≡ Some (is.End t)
    → IsOpBy log n t o → is_crossed log n ≡ true
undone_wholly [] t e n o legal end by = absurd (cc)
undone_wholly (r ∷ log) t e n o legal end by =
    elim (which r log e (end_number (r ∷ log) t e (inr end))) [
      | inl now ↦
          let ends : Some r ≡ Some (is.End t) = newest_at (λ x. x ≡ Some (is.End t)) r log e now end in
          let same : r ≡ is.End t = cc in
          at_end (subst (Fits log) same legal.0).undone (which r log n (op_number (r ∷ log) n t o by)) same
      | inr was ↦
          let ended : record_at log e ≡ Some (is.End t) = had_at (λ x. x ≡ Some (is.End t)) r log e was end in
          elim (which r log n (op_number (r ∷ log) n t o by)) [
            | inl newest ↦
                let step : AStep t (Some r) = op_step t o (Some r) (newest_at (AnOp t o) r log n newest by) in
                absurd (true≢false (sym (end_ends log t e (inr ended)) ∙ (step_open log r t legal.0 step).goes_on))
            | inr older ↦ crossed_push n r log
                (undone_wholly log t e n o legal.1 ended (had_at (AnOp t o) r log n older by))
          ]
    ]
  where
    at_end : ((m : ℕ) → Stands log t m → ⊥) → (n ≡ length log + 1) ⊎ IsNumber log n → r ≡ is.End t
        → is_crossed (r ∷ log) n ≡ true
    at_end none (inl newest) same =
        let is_op : AnOp t o (Some r) = newest_at (AnOp t o) r log n newest by in
        let is_end : AnOp t o (Some (is.End t)) = subst (λ x. AnOp t o (Some x)) same is_op in
        absurd (cc)
    at_end none (inr older) same =
        crossed_push n r log (elim (cases_Bool (is_crossed log n)) [
          | inl c ↦ c
          | inr c ↦ absurd (none n (record { op = o; is = had_at (AnOp t o) r log n older by; uncrossed = c }))
        ])

-- whether it is left open, as a test
pub begin_is : (r : Option Record) → is_begin r ≡ true → r ≡ Some is.Begin
begin_is (Some is.Begin) h = refl
begin_is None h = absurd (true≢false (sym h))
begin_is (Some _) h = absurd (true≢false (sym h))

pub left_open : (log : List Record) (t : ℕ) → IsOpen log t → is_left_open log t ≡ true
left_open log t h = rw (h.begun, h.goes_on) refl

pub left_ended : (log : List Record) (t : ℕ) → has_ended log t ≡ true → is_left_open log t ≡ false
left_ended log t h = by (is_begin (record_at log t)) (has_ended log t) h
  where
    by : (b e : Bool) → e ≡ true → (b && not e) ≡ false
    by true true h = refl
    by true false h = absurd (true≢false (sym h))
    by false e h = refl

-- a number begins a transaction or doesn't
pub begins : (log : List Record) (t : ℕ) → (record_at log t ≡ Some is.Begin) ⊎ (record_at log t ≡ Some is.Begin → ⊥)
begins log t =
    elim (cases_Bool (is_begin (record_at log t))) [
      | inl h ↦ inl (begin_is (record_at log t) h)
      | inr h ↦ inr (λ e. true≢false (ap is_begin (sym e) ∙ h))
    ]

pub left_unbegun : (log : List Record) (t : ℕ) → (record_at log t ≡ Some is.Begin → ⊥) → is_left_open log t ≡ false
left_unbegun log t h =
    elim (cases_Bool (is_begin (record_at log t))) [
      | inl e ↦ absurd (h (begin_is (record_at log t) e))
      | inr e ↦ ap (λ (b : Bool). b && not (has_ended log t)) e
    ]

-- whoever is over and has ended there has its End there
pub end_before : (newer older : List Record) (t : ℕ) → IsLegal (newer ++ older) → IsOver (newer ++ older) t
    → record_at older t ≡ Some is.Begin → has_ended older t ≡ true → (n : ℕ) × (record_at older n ≡ Some (is.End t))
end_before newer older t legal (inr none) here shut =
    absurd (none (record_same newer older t (begun_number older t here).bounded ∙ here))
end_before newer older t legal (inl end) here shut =
    elim (cases_lt (length older) end.0) [
      | inl above ↦ absurd (true≢false (sym shut ∙ not_ended newer older t end.0 legal (inr end.1) above))
      | inr kept ↦ (end.0, sym (record_same newer older end.0 kept) ∙ end.1)
    ]
