-- Where a compensation fits: what stands at its key is what its operation leaves of the others that stand, and it is
-- answered after them as it was.
use Rattle.std.proofs.Common.{◌≡◌, ◌≢◌, ◌⊎◌, ℕ, ◌<◌, ◌≤◌, Bool, true, false, List, [], ◌∷◌, Option, refl, sym, ap, ◌∙◌, subst, arith, inl, inr, true≢false, eq-eqb, ne_eqb}
use Rattle.std.specs.Prelude.{◌&&◌, ◌||◌, ◌==◌, not, if◌then◌else◌}
use Rattle.std.proofs.lemmas.Bool.{cases_eq, cases_Bool}
use Rattle.record_key.specs.declared.op.Op.{Op}
use Rattle.record_key.specs.Table.{Bytes, key_of, is_add, AreAdds, answer_at, value_after}
use Rattle.record_key.proofs.Tables.{is_same-refl, is_same-true}
use Rattle.history.specs.declared.record.Record.{Record}
use Rattle.history.specs.Log.{record_at, before, is_crossed, has_ended, IsOpBy}
use Rattle.history.specs.Legal.{Fits, FitsComp, IsLegal}
use Rattle.history.specs.Chains.{EndsBetween}
use Rattle.history.specs.Values.{is_on, value_where, value_standing, value_without}
use Rattle.log_laws.proofs.Records.{AnOp, op_step, op_request, IsNumber, which, not_newest, before_new, before_old, since, record_before}
use Rattle.log_laws.proofs.Adding.{op_adds}
use Rattle.log_laws.proofs.LegalLogs.{ended_push, crossed_push, op_number}
use Rattle.log_laws.proofs.Strict.{end_ends, strict}
use Rattle.log_laws.proofs.Undo.{stands_since, number_before}
use Rattle.log_laws.proofs.Values.{values_alike, value_split, value_last, answer_below, answers_alike}

-- a transaction that has ended is crossed no further
pub ended_crosses_none : (r : Record) (log : List Record) (n v : ℕ) (q : Op) → Fits log r → IsOpBy log n v q
    → has_ended log v ≡ true → is_crossed (r ∷ log) n ≡ is_crossed log n
ended_crosses_none r log n v q fits is_op ended = grind arith

-- so it stays as it was since a number before which its transaction ended
pub frozen : (log : List Record) (u n v : ℕ) (q : Op) → IsLegal log → IsNumber log u → n < u
    → IsOpBy (before log u) n v q → has_ended (before log u) v ≡ true
    → is_crossed log n ≡ is_crossed (before log u) n
frozen [] u n v q legal number below is_op ended = refl
frozen (r ∷ log) u n v q legal number below is_op ended =
    elim (which r log u number) [
      | inl e ↦
          let same = before_new r log u e in
          ended_crosses_none r log n v q legal.0 (subst (λ x. IsOpBy x n v q) same is_op)
          (subst (λ x. has_ended x v ≡ true) same ended)
          ∙ ap (λ x. is_crossed x n) (sym same)
      | inr was ↦
          let same = before_old r log u (not_newest log u was) in
          let was_op : IsOpBy (before log u) n v q = subst (λ x. IsOpBy x n v q) same is_op in
          let had_ended : has_ended (before log u) v ≡ true = subst (λ x. has_ended x v ≡ true) same ended in
          ended_crosses_none r log n v q legal.0 (subst (AnOp v q) (record_before log n u was below) was_op)
          (since (λ x. has_ended x v ≡ true) (ended_push v) log u had_ended)
          ∙ frozen log u n v q legal.1 was below was_op had_ended ∙ ap (λ x. is_crossed x n) (sym same)
    ]

-- who ended between two numbers had ended before the later one
pub ended_before : (log : List Record) (t n m : ℕ) → IsNumber log m → EndsBetween log t n m
    → has_ended (before log m) t ≡ true
ended_before log t n m number h = grind (arith, end_ends, record_before)

-- at a compensation: what stands at its key
module _ (log : List Record) (t u x : ℕ) (i : Option Op) (legal : IsLegal log) (fits : FitsComp log t u x i) where
  abbrev pub undone : Op
  undone = fits.inverse.op

  -- the operation that is undone is the transaction's
  pub undone_is : IsOpBy log u t undone
  undone_is = grind arith

  -- its number is one of the log
  number : IsNumber log u
  number = op_number log u t undone undone_is

  -- nothing on the key stands above it, but for Adds
  crossed_above : (n v : ℕ) (q : Op) → u < n → IsOpBy log n v q → is_on (key_of undone) q ≡ true
      → AreAdds undone q ⊎ (is_crossed log n ≡ true)
  crossed_above n v q above is_op on =
      elim (cases_Bool (is_crossed log n)) [
        | inl c ↦ inr c
        | inr c ↦
            elim (cases_eq v t) [
              | inl e ↦ absurd (omega (
                arith,
                above,
                fits.latest.greatest n (record {
                  op = q;
                  is = subst (λ (z : ℕ). IsOpBy log n z q) e is_op;
                  uncrossed = c;
                }),
              ))
              | inr other ↦
                  let same : key_of q ≡ key_of undone = sym (is_same-true (key_of undone) (key_of q) on) in
                  elim (strict log legal u n t v undone q undone_is above (op_step v q (record_at log n) is_op)
                  (op_request v q (record_at log n) is_op) same other) [
                    | inl both ↦ inl (
                      sym (op_adds log u t undone undone_is) ∙ both.0,
                      sym (op_adds log n v q is_op) ∙ both.1,
                    )
                    | inr end ↦
                        absurd (true≢false (sym (end_ends log t end.end end.is) ∙ fits.open_txn.goes_on))
                  ]
            ]
      ]

  -- what stood on the key below it stands, but for Adds
  crossed_below : (n v : ℕ) (q : Op) → IsOpBy (before log u) n v q → is_on (key_of undone) q ≡ true
      → AreAdds undone q ⊎ (is_crossed log n ≡ is_crossed (before log u) n)
  crossed_below n v q was_op on =
      let below : n < u = number_before log u n number (op_number (before log u) n v q was_op) in
      let is_op : IsOpBy log n v q = subst (AnOp v q) (record_before log n u number below) was_op in
      elim (cases_eq v t) [
        | inl e ↦
            inr (elim (cases_Bool (is_crossed (before log u) n)) [
              | inl c ↦ since (λ y. is_crossed y n ≡ true) (crossed_push n) log u c ∙ sym c
              | inr c ↦
                  (stands_since log t u n legal fits.latest.is below
                  (record {
                    op = q;
                    is = subst (λ (z : ℕ). IsOpBy (before log u) n z q) e was_op;
                    uncrossed = c;
                  })).uncrossed
                  ∙ sym c
            ])
        | inr other ↦
            let same : key_of undone ≡ key_of q = is_same-true (key_of undone) (key_of q) on in
            elim (strict log legal n u v t q undone is_op below (op_step t undone (record_at log u) undone_is)
            (op_request t undone (record_at log u) undone_is) same (λ e. other (sym e))) [
              | inl both ↦ inl (
                sym (op_adds log u t undone undone_is) ∙ both.1,
                sym (op_adds log n v q is_op) ∙ both.0,
              )
              | inr end ↦ inr (frozen log u n v q legal number below was_op (ended_before log v n u number end))
            ]
      ]

  -- its key
  abbrev pub k : Bytes
  k = key_of undone

  -- what no compensation names: now, before the operation, and with this compensation too
  abbrev pub standing : ℕ → Bool
  standing n = not (is_crossed log n)

  abbrev pub stood : ℕ → Bool
  stood n = not (is_crossed (before log u) n)

  abbrev pub left : ℕ → Bool
  left n = not ((n == u) || is_crossed log n)

  -- the compensation takes away this operation alone
  pub left_out : left u ≡ false
  left_out = ap (λ b. not (b || is_crossed log u)) (eq-eqb u u refl)

  pub left_other : (n : ℕ) → n ≢ u → standing n ≡ left n
  left_other n apart = ap (λ b. not (b || is_crossed log n)) (sym (ne_eqb n u apart))

  -- what stands above it agrees with it
  standing_above : (n v : ℕ) (q : Op) → u < n → IsOpBy log n v q → is_on k q ≡ true → standing n ≡ true
      → AreAdds undone q
  standing_above n v q above is_op on stands =
      elim (crossed_above n v q above is_op on)
      [ inl both ↦ both | inr c ↦ absurd (true≢false (sym stands ∙ ap not c)) ]

  pub left_above : (n v : ℕ) (q : Op) → u ≤ n → IsOpBy log n v q → is_on k q ≡ true → left n ≡ true → AreAdds undone q
  left_above n v q above is_op on stands =
      elim (cases_eq n u) [
        | inl e ↦ absurd (true≢false (sym stands ∙ ap left e ∙ left_out))
        | inr apart ↦ standing_above n v q (omega (arith, above, apart)) is_op on (left_other n apart ∙ stands)
      ]

  -- so what stands there is what it leaves of the others
  pub standing_left : value_standing k log ≡ value_after undone (value_without k u log)
  standing_left =
      value_last k standing left log u t undone undone_is (is_same-refl k) (ap not fits.latest.is.uncrossed) left_out
      left_other standing_above

  -- below it these are those of then, but for Adds
  pub left_below : (n v : ℕ) (q : Op) → IsOpBy (before log u) n v q → is_on k q ≡ true
      → (left n ≡ stood n) ⊎ AreAdds undone q
  left_below n v q was_op on =
      let below : n < u = number_before log u n number (op_number (before log u) n v q was_op) in
      elim (crossed_below n v q was_op on) [
        | inl both ↦ inr both
        | inr same ↦ inl (sym (left_other n (λ e. omega (arith, e, below))) ∙ ap not same)
      ]

  -- so it is answered after them as it was
  pub answered_without : answer_at undone (value_without k u log)
      ≡ answer_at undone (value_standing k (before log u))
  answered_without =
      answer_below k left log u undone number left_above
      ∙ answers_alike k left stood (before log u) undone left_below

  -- and unless it is an Add they leave what was there before it
  pub standing_without : is_add undone ≡ false → value_without k u log ≡ value_standing k (before log u)
  standing_without none =
      let never : (q : Op) → AreAdds undone q → ⊥ = λ q both. true≢false (sym both.0 ∙ none) in
      value_split k left log u t undone undone_is
      (λ n v q above is_op on. elim (cases_Bool (left n)) [
        | inl stands ↦ absurd (never q (left_above n v q (omega (arith, above)) is_op on stands))
        | inr out ↦ out
      ])
      ∙ ap (λ b. if b && is_on k undone then value_after undone (value_where k left (before log u)) else value_where k
      left (before log u)) left_out
      ∙ values_alike k left stood (before log u) (λ n v q was_op on. elim (left_below n v q was_op on)
      [ inl same ↦ same | inr both ↦ absurd (never q both) ])
