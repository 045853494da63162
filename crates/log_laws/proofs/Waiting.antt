-- What the answered requests of a log leave at a key, where only operations wait for their answers.
use Rattle.std.proofs.lemmas.Bool.Decides.{nat_tests}
use Rattle.std.proofs.Common.{◌≡◌, ◌≢◌, ◌⊎◌, ℕ, ◌+◌, ◌<◌, ◌≤◌, Bool, true, false, List, [], ◌∷◌, length, Option, Some, None, IsSome, is_some, refl, sym, ap, ◌∙◌, subst, arith, inl, inr, true≢false, eq-eqb}
use Rattle.std.specs.Prelude.{◌&&◌, ◌||◌, ◌==◌, not, if◌then◌else◌}
use Rattle.std.proofs.lemmas.Bool.{cases_Bool, and_parts}
use Rattle.record_key.specs.declared.op.Op.{Op}
use Rattle.record_key.specs.Table.{Bytes, key_of, AreAdds, answer_at, value_after}
use Rattle.record_key.proofs.Tables.{is_same-refl, is_same-true}
use Rattle.inverse.specs.Inverse.{inverse_of}
use Rattle.inverse.proofs.Undo.{Outcome, outcome}
use Rattle.history.specs.declared.record.Record.{Record}
use Rattle.history.specs.declared.record.Record.TheVariants as is
use Rattle.history.specs.Log.{record_at, before, answer_of, is_crossed, Requests, IsOpBy}
use Rattle.history.specs.Legal.{Fits, FitsComp, IsLegal}
use Rattle.history.specs.Chains.{BothAdd}
use Rattle.history.specs.Values.{is_on, value_with, value_on, value_where, HasRightAnswers}
use Rattle.history.specs.Honest.{Numbered, numbered_with, numbered_on, value_of}
use Rattle.log_laws.specs.Laws.{OnlyOperationsWait, AnsweredIsPlain}
use Rattle.log_laws.proofs.Records.{AnOp, ARequest, op_request, op_same, IsNumber, kept_at, within, at_newest, since, record_before}
use Rattle.log_laws.proofs.LegalLogs.{uncrossed_next, right_rest, legal_before, right_before, crossed_push, answered_push, op_number, request_number}
use Rattle.log_laws.proofs.Adding.{adds_kept, op_adds}
use Rattle.log_laws.proofs.Strict.{one_at_a_time}
use Rattle.log_laws.proofs.Named.{crossed_answered}
use Rattle.log_laws.proofs.Undo.{number_before}
use Rattle.log_laws.proofs.Values.{values_alike, value_last, answer_below, answers_alike, right_at}
use Rattle.log_laws.proofs.Compensations.{undone_is, left_above, left_below, left_other, left_out}
use Rattle.log_laws.proofs.Cancel.{cancel, given_back, elsewhere}
use Rattle.log_laws.proofs.Plain.{plain_of_history}

-- the requests that count: what is undone does, each compensation does, and what doesn't agrees with all after it
pub record Counts (cap : ℕ → Bool) (log : List Record) : Type 0 where
  pub crossed : (u : ℕ) → is_crossed log u ≡ true → cap u ≡ true
  pub earlier : (m u : ℕ) (o q : Op) → Requests log m o → m < u → Requests log u q → key_of q ≡ key_of o
      → (cap m ≡ true) ⊎ BothAdd log m u
  pub comps : (n t u x : ℕ) (i : Op) → record_at log n ≡ Some (is.Comp t u x (Some i)) → cap n ≡ true

rest_counts : (cap : ℕ → Bool) (r : Record) (log : List Record) → Counts cap (r ∷ log) → Counts cap log
rest_counts cap r log h = record {
  crossed = λ u c. h.crossed u (crossed_push u r log c);
  earlier = λ m u o q asks below ask same.
      let first : IsNumber log m = request_number log m o asks in
      let second : IsNumber log u = request_number log u q ask in
      elim (h.earlier m u o q (kept_at (ARequest o) r log m first asks) below (kept_at (ARequest q) r log u second ask)
      same) [
        | inl counts ↦ inl counts
        | inr both ↦ inr (sym (adds_kept r log m first) ∙ both.0, sym (adds_kept r log u second) ∙ both.1)
      ];
  comps = λ n t u x i is_comp.
      let AComp : Option Record → Type 0 = λ z. z ≡ Some (is.Comp t u x (Some i)) in
      h.comps n t u x i (kept_at AComp r log n (within AComp (λ none. cc) log n is_comp) is_comp);
}

-- a request that counts, and an operation that counts or doesn't
counted_request : (cap : ℕ → Bool) (k : Bytes) (n : ℕ) (i : Option Op) (rest : List Numbered) → cap n ≡ true
    → value_of cap (numbered_with k n i rest) ≡ value_with k i (value_of cap rest)
counted_request cap k n i rest counts = grind arith

counted_op : (cap : ℕ → Bool) (k : Bytes) (n : ℕ) (o : Op) (rest : List Numbered)
    → value_of cap (numbered_with k n (Some o) rest)
    ≡ (if cap n && is_on k o then value_after o (value_of cap rest) else value_of cap rest)
counted_op cap k n o rest = grind arith

-- a compensation among requests that count
module _ (cap : ℕ → Bool) (log : List Record) (t u x : ℕ) (i : Option Op) (legal : IsLegal log)
    (fits : FitsComp log t u x i) (right : HasRightAnswers log) (counts : Counts cap log) (counts_u : cap u ≡ true) where
  abbrev o : Op
  o = fits.inverse.op

  abbrev key : Bytes
  key = key_of o

  is_op : IsOpBy log u t o
  is_op = undone_is log t u x i legal fits

  number : IsNumber log u
  number = op_number log u t o is_op

  -- those that stand among them, with the operation and without
  abbrev standing : ℕ → Bool
  standing n = cap n && not (is_crossed log n)

  abbrev left : ℕ → Bool
  left n = cap n && not ((n == u) || is_crossed log n)

  abbrev others : Option Bytes
  others = value_where key left log

  left_u : left u ≡ false
  left_u = ap (λ b. b && not ((u == u) || is_crossed log u)) counts_u ∙ left_out log t u x i legal fits

  left_alike : (n : ℕ) → n ≢ u → standing n ≡ left n
  left_alike n apart = ap (λ b. cap n && b) (left_other log t u x i legal fits n apart)

  above : (n v : ℕ) (q : Op) → u ≤ n → IsOpBy log n v q → is_on key q ≡ true → left n ≡ true → AreAdds o q
  above n v q at by on stands = left_above log t u x i legal fits n v q at by on (and_parts _ _ stands).1

  -- what stands is what the operation leaves of the others
  stands_so : value_where key standing log ≡ value_after o others
  stands_so =
      value_last key standing left log u t o is_op (is_same-refl key)
      (ap (λ b. b && not (is_crossed log u)) counts_u ∙ ap not fits.latest.is.uncrossed) left_u left_alike
      (λ n v q higher by on stands. above n v q (omega (arith, higher)) by on
      (sym (left_alike n (λ e. omega (arith, e, higher))) ∙ stands))

  -- which don't differ from those of then but in Adds
  below : (n v : ℕ) (q : Op) → IsOpBy (before log u) n v q → is_on key q ≡ true
      → (left n ≡ not (is_crossed (before log u) n)) ⊎ AreAdds o q
  below n v q was_op on =
      let less : n < u = number_before log u n number (op_number (before log u) n v q was_op) in
      let by : IsOpBy log n v q = subst (AnOp v q) (record_before log n u number less) was_op in
      elim (left_below log t u x i legal fits n v q was_op on) [
        | inr both ↦ inr both
        | inl same ↦
            elim (counts.earlier n u q o (op_request v q (record_at log n) by) less
            (op_request t o (record_at log u) is_op) (is_same-true key (key_of q) on)) [
              | inl here ↦ inl (ap (λ b. b && not ((n == u) || is_crossed log n)) here ∙ same)
              | inr both ↦ inr (
                sym (op_adds log u t o is_op) ∙ both.1,
                sym (op_adds log n v q by) ∙ both.0,
              )
            ]
      ]

  -- so the operation is answered after them as it was
  abbrev was : Option Bytes
  was = value_on key (before log u)

  answered_as : answer_at o others ≡ answer_at o was
  answered_as =
      answer_below key left log u o number above
      ∙ answers_alike key left (λ n. not (is_crossed (before log u) n)) (before log u) o below
      ∙ ap (answer_at o) (sym (cancel (before log u) (legal_before log u legal) (right_before log u right) key))

  taken_back : Outcome o others i
  taken_back =
      let right_answer : fits.inverse.answer ≡ answer_at o was =
      right_at log u fits.inverse.answer legal right fits.inverse.answered o (op_request t o (record_at log u) is_op) in
      let P : Option Op → Type 0 = Outcome o others in
      subst P (sym (fits.inverse.inverse ∙ ap (inverse_of o) (right_answer ∙ sym answered_as))) (outcome o others)

  -- and its inverse leaves the others
  here_left : value_with key i (value_where key standing log) ≡ value_where key left log
  here_left = ap (value_with key i) stands_so ∙ given_back o others i taken_back

  elsewhere_left : (k : Bytes) → is_on k o ≡ false
      → value_with k i (value_where k standing log) ≡ value_where k left log
  elsewhere_left k off = grind (arith, nat_tests, elsewhere, values_alike, left_alike, true≢false, op_same, is_op)

  pub comp_left : (k : Bytes) → value_with k i (value_where k standing log) ≡ value_where k left log
  comp_left k =
      elim (cases_Bool (is_on k o)) [
        | inl on ↦
            let P : Bytes → Type 0 = λ q. value_with q i (value_where q standing log) ≡ value_where q left log in
            subst P (sym (is_same-true k key on)) here_left
        | inr off ↦ elsewhere_left k off
      ]

-- what the requests that count leave is what those of them leave that stand, with one record more
leaves_next : (cap : ℕ → Bool) (r : Record) (log : List Record) → Fits log r → IsLegal log → HasRightAnswers log
    → Counts cap (r ∷ log)
    → ((k : Bytes) → value_of cap (numbered_on k log) ≡ value_where k (λ n. cap n && not (is_crossed log n)) log)
    → (k : Bytes) → value_of cap (numbered_on k (r ∷ log))
    ≡ value_where k (λ n. cap n && not (is_crossed (r ∷ log) n)) (r ∷ log)
leaves_next cap (is.Op t p o) log fits legal right counts rest k = grind (arith, counted_op, uncrossed_next)
leaves_next cap (is.Comp t u x None) log fits legal right counts rest k =
    rest k ∙ comp_left cap log t u x None legal fits right (rest_counts cap (is.Comp t u x None) log counts)
    (counts.crossed u (ap (λ b. b || is_crossed log u) (eq-eqb u u refl))) k
leaves_next cap (is.Comp t u x (Some i)) log fits legal right counts rest k =
    counted_request cap k (length log + 1) (Some i) (numbered_on k log)
    (counts.comps (length log + 1) t u x i
    (at_newest (λ z. z ≡ Some (is.Comp t u x (Some i))) (is.Comp t u x (Some i)) log (length log + 1) refl refl))
    ∙ ap (value_with k (Some i)) (rest k)
    ∙ comp_left cap log t u x (Some i) legal fits right (rest_counts cap (is.Comp t u x (Some i)) log counts)
    (counts.crossed u (ap (λ b. b || is_crossed log u) (eq-eqb u u refl))) k
leaves_next cap _ log fits legal right counts rest k = rest k

counted_left : (cap : ℕ → Bool) (log : List Record) → IsLegal log → HasRightAnswers log → Counts cap log → (k : Bytes)
    → value_of cap (numbered_on k log) ≡ value_where k (λ n. cap n && not (is_crossed log n)) log
counted_left cap [] legal right counts k = refl
counted_left cap (r ∷ log) legal right counts k =
    leaves_next cap r log legal.0 legal.1 (right_rest r log right) counts
    (counted_left cap log legal.1 (right_rest r log right) (rest_counts cap r log counts)) k

-- so the answered ones leave what the plain map of the history holds
answered_count : (log : List Record) → IsLegal log → OnlyOperationsWait log
    → Counts (λ n. is_some (answer_of log n)) log
answered_count log legal wait = record {
  crossed = λ u c. crossed_answered log u legal c;
  earlier = λ m u o q asks below ask same. elim (one_at_a_time log legal m u o q asks below ask same) [
    | inl both ↦ inr both
    | inr answered ↦ inl (since (λ z. IsSome (answer_of z m)) (answered_push m) log u answered)
  ];
  comps = λ n t u x i is_comp. wait n t u x i is_comp;
}

pub answered_is_plain : AnsweredIsPlain
answered_is_plain log legal right wait k = grind (arith, counted_left, answered_count, plain_of_history)
