-- The answer that a client is told is that of the plain map.
use Rattle.std.proofs.Common.{◌≡◌, ◌⊎◌, ℕ, ◌<◌, ◌≤◌, Bool, true, false, List, Option, None, IsSome, is_some, arith, sym, ap, ◌∙◌, subst, inl, inr, true≢false}
use Rattle.std.specs.Prelude.{◌&&◌, not}
use Rattle.std.specs.FinMap.{get}
use Rattle.std.proofs.lemmas.Bool.{cases_eq, cases_Bool, and_parts}
use Rattle.record_key.specs.declared.op.Op.{Op}
use Rattle.record_key.specs.declared.op.Answer.{Answer}
use Rattle.record_key.specs.Table.{Bytes, key_of, AreAdds, answer_at, answer_in}
use Rattle.record_key.proofs.Tables.{is_same-true}
use Rattle.history.specs.declared.record.Record.{Record}
use Rattle.history.specs.History.{plain}
use Rattle.history.specs.Log.{record_at, before, answer_of, is_crossed, IsOpen, IsOpBy, Requests, hist}
use Rattle.history.specs.Chains.{BothAdd}
use Rattle.history.specs.Legal.{IsLegal}
use Rattle.history.specs.Values.{is_on, value_on, IsRight, HasRightAnswers}
use Rattle.log_laws.proofs.Records.{AnOp, op_request, op_step, IsNumber, record_before, since}
use Rattle.log_laws.proofs.LegalLogs.{op_number, answered_push, crossed_push, legal_before, right_before}
use Rattle.log_laws.proofs.Adding.{op_adds}
use Rattle.log_laws.proofs.Strict.{strict, one_at_a_time}
use Rattle.log_laws.proofs.Undo.{stands_since, number_before}
use Rattle.log_laws.proofs.Values.{answer_below, answers_alike}
use Rattle.log_laws.proofs.Compensations.{frozen, ended_before}
use Rattle.log_laws.proofs.Cancel.{cancel}
use Rattle.log_laws.proofs.Plain.{plain_of_history}

some_isnt_false : (o : Option Answer) → is_some o ≡ false → IsSome o → ⊥
some_isnt_false o none some = true≢false (sym some ∙ none)

-- an operation of an open transaction waits for its answer, and stands
module _ (log : List Record) (n t : ℕ) (o : Op) (legal : IsLegal log) (right : HasRightAnswers log)
    (open_t : IsOpen log t)
    (by : IsOpBy log n t o) (unanswered : answer_of log n ≡ None) (stands : is_crossed log n ≡ false) where
  abbrev key : Bytes
  key = key_of o

  number : IsNumber log n
  number = op_number log n t o by

  requests : Requests log n o
  requests = op_request t o (record_at log n) by

  -- what the plain map keeps
  abbrev kept : ℕ → Bool
  kept m = is_some (answer_of log m) && not (is_crossed log m)

  -- those kept from it on are Adds, as it is
  kept_above : (m v : ℕ) (q : Op) → n ≤ m → IsOpBy log m v q → is_on key q ≡ true → kept m ≡ true → AreAdds o q
  kept_above m v q above is_op on keeps =
      elim (cases_eq m n) [
        | inl e ↦ absurd (some_isnt_false (answer_of log n) (ap is_some unanswered)
            (ap (λ (z : ℕ). is_some (answer_of log z)) (sym e) ∙ (and_parts _ _ keeps).0))
        | inr apart ↦
            let same : key_of q ≡ key = sym (is_same-true key (key_of q) on) in
            elim (one_at_a_time log legal n m o q requests (omega (arith, above, apart))
            (op_request v q (record_at log m) is_op) same) [
              | inl both ↦ (sym (op_adds log n t o by) ∙ both.0, sym (op_adds log m v q is_op) ∙ both.1)
              | inr answered ↦ absurd (some_isnt_false (answer_of log n) (ap is_some unanswered)
                  (since (λ x. IsSome (answer_of x n)) (answered_push n) log m answered))
            ]
      ]

  -- what was done to the key before it is answered, and is crossed out as it was then, or both are Adds
  below_kept : (m v : ℕ) (q : Op) → IsOpBy (before log n) m v q → is_on key q ≡ true
      → (kept m ≡ not (is_crossed (before log n) m)) ⊎ AreAdds o q
  below_kept m v q was_op on =
      let below : m < n = number_before log n m number (op_number (before log n) m v q was_op) in
      let is_op : IsOpBy log m v q = subst (AnOp v q) (record_before log m n number below) was_op in
      let same : key ≡ key_of q = is_same-true key (key_of q) on in
      let adds : BothAdd log m n → AreAdds o q =
      λ both. (sym (op_adds log n t o by) ∙ both.1, sym (op_adds log m v q is_op) ∙ both.0) in
      let crossed : (is_crossed log m ≡ is_crossed (before log n) m) ⊎ AreAdds o q =
      elim (cases_eq v t) [
        | inl e ↦
            inl (elim (cases_Bool (is_crossed (before log n) m)) [
              | inl c ↦ since (λ y. is_crossed y m ≡ true) (crossed_push m) log n c ∙ sym c
              | inr c ↦
                  (stands_since log t n m legal (record { op = o; is = by; uncrossed = stands }) below
                  (record {
                    op = q;
                    is = subst (λ (z : ℕ). IsOpBy (before log n) m z q) e was_op;
                    uncrossed = c;
                  })).uncrossed ∙ sym c
            ])
        | inr other ↦
            elim (strict log legal m n v t q o is_op below (op_step t o (record_at log n) by) requests same
            (λ e. other (sym e))) [
              | inl both ↦ inr (adds both)
              | inr end ↦ inl (frozen log n m v q legal number below was_op (ended_before log v m n number end))
            ]
      ] in
      elim (one_at_a_time log legal m n q o (op_request v q (record_at log m) is_op) below requests same) [
        | inl both ↦ inr (adds both)
        | inr answered ↦
            let still : IsSome (answer_of log m) =
            since (λ x. IsSome (answer_of x m)) (answered_push m) log n answered in
            elim crossed [
              | inl c ↦ inl (ap (λ b. b && not (is_crossed log m)) still ∙ ap not c)
              | inr both ↦ inr both
            ]
      ]

  -- so it is answered after what the plain map has as after what the log left there before it
  pub plain_there : answer_at o (get (plain (hist log)) key) ≡ answer_at o (value_on key (before log n))
  plain_there =
      ap (answer_at o) (plain_of_history log key)
      ∙ answer_below key kept log n o number kept_above
      ∙ answers_alike key kept (λ m. not (is_crossed (before log n) m)) (before log n) o below_kept
      ∙ ap (answer_at o) (sym (cancel (before log n) (legal_before log n legal) (right_before log n right) key))

  -- and a right answer is that of the plain map
  pub told_right : (a : Answer) → IsRight log n a → a ≡ answer_in (plain (hist log)) o
  told_right a is_right = is_right o requests ∙ sym plain_there
