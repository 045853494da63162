-- What a log leaves at a key: by which numbers, split at an operation, and the answers that it gives.
use Rattle.std.proofs.Common.{◌≡◌, ◌≢◌, ◌⊎◌, ℕ, ◌+◌, ◌<◌, ◌≤◌, Bool, true, false, List, [], ◌∷◌, length, Option, Some, None, is_some, refl, sym, ap, ◌∙◌, subst, arith, inl, inr, true≢false}
use Rattle.std.specs.Prelude.{◌&&◌, if◌then◌else◌}
use Rattle.std.proofs.lemmas.Bool.{cases_Bool}
use Rattle.record_key.specs.declared.op.Op.{Op}
use Rattle.record_key.specs.declared.op.Answer.{Answer}
use Rattle.record_key.specs.Table.{Bytes, key_of, is_add, AreAdds, answer_at, value_after}
use Rattle.record_key.proofs.Adds.{adds_commute, SeenAlike, seen_after, seen_left, seen_right, answered_alike}
use Rattle.history.specs.declared.record.Record.{Record}
use Rattle.history.specs.Log.{before, answer_of, op_of, IsOpBy}
use Rattle.history.specs.Legal.{IsLegal}
use Rattle.history.specs.Values.{is_on, value_on, value_kept, value_where, IsRight, HasRightAnswers}
use Rattle.log_laws.proofs.Records.{AnOp, ARequest, IsNumber, at_newest, newest_at, kept_at, had_at, which, not_newest, before_newest, before_older, before_new, before_old}
use Rattle.log_laws.proofs.LegalLogs.{op_number, request_number, unanswered_next, right_rest}

-- an operation that both tests let through, or neither
chosen : (on p q : Bool) (o : Op) (v w : Option Bytes) → (on ≡ true → p ≡ q) → v ≡ w
    → (if p && on then value_after o v else v) ≡ (if q && on then value_after o w else w)
chosen on p q o v w same e = grind arith

-- of what a record has kept
kept_alike : (k : Bytes) (n : ℕ) (p q : ℕ → Bool) (by : Option (ℕ × Op)) (v w : Option Bytes)
    → ((t : ℕ) (o : Op) → by ≡ Some (t, o) → is_on k o ≡ true → p n ≡ q n) → v ≡ w
    → value_kept k n p by v ≡ value_kept k n q by w
kept_alike k n p q None v w same e = e
kept_alike k n p q (Some by) v w same e = chosen (is_on k by.1) (p n) (q n) by.1 v w (same by.0 by.1 refl) e

-- tests that agree on the operations of a key leave the same there
pub values_alike : (k : Bytes) (p q : ℕ → Bool) (log : List Record)
    → ((n t : ℕ) (o : Op) → IsOpBy log n t o → is_on k o ≡ true → p n ≡ q n) → value_where k p log ≡ value_where k q log
values_alike k p q [] same = refl
values_alike k p q (r ∷ log) same =
    kept_alike k (length log + 1) p q (op_of r) (value_where k p log) (value_where k q log)
    (λ t o is on. same (length log + 1) t o (at_newest (AnOp t o) r log (length log + 1) refl is) on)
    (values_alike k p q log (λ n t o is on. same n t o (kept_at (AnOp t o) r log n (op_number log n t o is) is) on))

-- an operation that the test leaves out
left_out : (on p : Bool) (o : Op) (v : Option Bytes) → (on ≡ true → p ≡ false)
    → (if p && on then value_after o v else v) ≡ v
left_out on p o v none = grind arith

kept_none : (k : Bytes) (n : ℕ) (p : ℕ → Bool) (by : Option (ℕ × Op)) (v : Option Bytes)
    → ((t : ℕ) (o : Op) → by ≡ Some (t, o) → is_on k o ≡ true → p n ≡ false) → value_kept k n p by v ≡ v
kept_none k n p None v none = refl
kept_none k n p (Some by) v none = left_out (is_on k by.1) (p n) by.1 v (none by.0 by.1 refl)

-- none above a number passes
abbrev pub NoneAbove : Bytes → (ℕ → Bool) → List Record → ℕ → Type 0
NoneAbove k p log u = (n t : ℕ) (o : Op) → u < n → IsOpBy log n t o → is_on k o ≡ true → p n ≡ false

-- where no operation above this one passes, it comes last
pub value_split : (k : Bytes) (p : ℕ → Bool) (log : List Record) (u t : ℕ) (o : Op) → IsOpBy log u t o
    → NoneAbove k p log u
    → value_where k p log ≡ value_kept k u p (Some (t, o)) (value_where k p (before log u))
value_split k p [] u t o is none = absurd (cc)
value_split k p (r ∷ log) u t o is none =
    elim (which r log u (op_number (r ∷ log) u t o is)) [
      | inl e ↦
          before_newest (λ x. value_where k p (r ∷ log) ≡ value_kept k u p (Some (t, o)) (value_where k p x)) r log u e
          (ap (λ (n : ℕ). value_kept k n p (op_of r) (value_where k p log)) (sym e)
          ∙ ap (λ by. value_kept k u p by (value_where k p log)) (newest_at (AnOp t o) r log u e is))
      | inr was ↦
          kept_none k (length log + 1) p (op_of r) (value_where k p log)
          (λ v q by on. none (length log + 1) v q (omega (arith, was.bounded))
          (at_newest (AnOp v q) r log (length log + 1) refl by) on)
          ∙ before_older (λ x. value_where k p log ≡ value_kept k u p (Some (t, o)) (value_where k p x)) r log u
          (not_newest log u was)
          (value_split k p log u t o (had_at (AnOp t o) r log u was is)
          (λ n v q above by on. none n v q above (kept_at (AnOp v q) r log n (op_number log n v q by) by) on))
    ]

-- an operation that commutes with what is left of a record may come after it
passed : (on p : Bool) (o q : Op) (v w : Option Bytes) → (p ≡ true → on ≡ true → AreAdds o q)
    → v ≡ value_after o w
    → (if p && on then value_after q v else v) ≡ value_after o (if p && on then value_after q w else w)
passed on p o q v w both e = grind (arith, adds_commute.value)

kept_past : (k : Bytes) (n : ℕ) (p : ℕ → Bool) (by : Option (ℕ × Op)) (o : Op) (v w : Option Bytes)
    → ((t : ℕ) (q : Op) → by ≡ Some (t, q) → is_on k q ≡ true → p n ≡ true → AreAdds o q) → v ≡ value_after o w
    → value_kept k n p by v ≡ value_after o (value_kept k n p by w)
kept_past k n p None o v w both e = e
kept_past k n p (Some by) o v w both e =
    passed (is_on k by.1) (p n) o by.1 v w (λ passes on. both by.0 by.1 refl on passes) e

-- those above a number that pass are Adds, as this operation is
abbrev pub AddsAbove : Bytes → (ℕ → Bool) → List Record → ℕ → Op → Type 0
AddsAbove k p log u o =
    (n t : ℕ) (q : Op) → u < n → IsOpBy log n t q → is_on k q ≡ true → p n ≡ true → AreAdds o q

-- so the operation may come last, after what is left without it
pub value_last : (k : Bytes) (p q : ℕ → Bool) (log : List Record) (u t : ℕ) (o : Op) → IsOpBy log u t o
    → is_on k o ≡ true → p u ≡ true → q u ≡ false → ((n : ℕ) → n ≢ u → p n ≡ q n) → AddsAbove k p log u o
    → value_where k p log ≡ value_after o (value_where k q log)
value_last k p q [] u t o is on here gone same above = absurd (cc)
value_last k p q (r ∷ log) u t o is on here gone same above =
    let top : ℕ = length log + 1 in
    elim (which r log u (op_number (r ∷ log) u t o is)) [
      | inl e ↦
          let by : op_of r ≡ Some (t, o) = newest_at (AnOp t o) r log u e is in
          let alike : value_where k p log ≡ value_where k q log =
          values_alike k p q log (λ n v x is_op _. same n (λ f. omega (arith, e, f, (op_number log n v x is_op).bounded)))
          in
          let now : p top ≡ true = ap p (sym e) ∙ here in
          let never : q top ≡ false = ap q (sym e) ∙ gone in
          ap (λ b. value_kept k top p b (value_where k p log)) by
          ∙ ap (λ b. if b && is_on k o then value_after o (value_where k p log) else value_where k p log) now
          ∙ ap (λ b. if b then value_after o (value_where k p log) else value_where k p log) on
          ∙ ap (value_after o) (alike
          ∙ sym (ap (λ b. value_kept k top q b (value_where k q log)) by
          ∙ ap (λ b. if b && is_on k o then value_after o (value_where k q log) else value_where k q log) never))
      | inr was ↦
          let apart : top ≢ u = λ e. omega (arith, e, was.bounded) in
          kept_past k top p (op_of r) o (value_where k p log) (value_where k q log)
          (λ v x by on_it passes. above top v x (omega (arith, was.bounded))
          (at_newest (AnOp v x) r log top refl by) on_it passes)
          (value_last k p q log u t o (had_at (AnOp t o) r log u was is) on here gone same
          (λ n v x higher by. above n v x higher (kept_at (AnOp v x) r log n (op_number log n v x by) by)))
          ∙ ap (value_after o) (kept_alike k top p q (op_of r) (value_where k q log) (value_where k q log)
          (λ v x by on_it. same top apart) refl)
    ]

-- and an operation is answered as before those that commute with it
answer_past : (on p : Bool) (o q : Op) (v : Option Bytes) → (p ≡ true → on ≡ true → AreAdds o q)
    → answer_at o (if p && on then value_after q v else v) ≡ answer_at o v
answer_past on p o q v both = grind (arith, adds_commute.answer)

answer_kept : (k : Bytes) (n : ℕ) (p : ℕ → Bool) (by : Option (ℕ × Op)) (o : Op) (v : Option Bytes)
    → ((t : ℕ) (q : Op) → by ≡ Some (t, q) → is_on k q ≡ true → p n ≡ true → AreAdds o q)
    → answer_at o (value_kept k n p by v) ≡ answer_at o v
answer_kept k n p None o v both = refl
answer_kept k n p (Some by) o v both =
    answer_past (is_on k by.1) (p n) o by.1 v (λ passes on. both by.0 by.1 refl on passes)

pub answer_below : (k : Bytes) (p : ℕ → Bool) (log : List Record) (u : ℕ) (o : Op) → IsNumber log u
    → ((n t : ℕ) (q : Op) → u ≤ n → IsOpBy log n t q → is_on k q ≡ true → p n ≡ true → AreAdds o q)
    → answer_at o (value_where k p log) ≡ answer_at o (value_where k p (before log u))
answer_below k p [] u o number above = refl
answer_below k p (r ∷ log) u o number above =
    let top : ℕ = length log + 1 in
    let here : answer_at o (value_where k p (r ∷ log)) ≡ answer_at o (value_where k p log) =
    answer_kept k top p (op_of r) o (value_where k p log) (λ v x by on passes.
    above top v x (omega (arith, number.bounded)) (at_newest (AnOp v x) r log top refl by) on passes) in
    elim (which r log u number) [
      | inl e ↦ here ∙ ap (λ x. answer_at o (value_where k p x)) (sym (before_new r log u e))
      | inr was ↦
          here ∙ answer_below k p log u o was
          (λ n v x higher by. above n v x higher (kept_at (AnOp v x) r log n (op_number log n v x by) by))
          ∙ ap (λ x. answer_at o (value_where k p x)) (sym (before_old r log u (not_newest log u was)))
    ]

-- tests that agree on the operations of a key that aren't Adds leave there what an Add sees alike
seen_chosen : (on p q : Bool) (o : Op) (v w : Option Bytes) → (on ≡ true → (p ≡ q) ⊎ (is_add o ≡ true))
    → SeenAlike v w
    → SeenAlike (if p && on then value_after o v else v) (if q && on then value_after o w else w)
seen_chosen on p q o v w same h = grind (arith, seen_after, true≢false, seen_left, seen_right)

seen_kept : (k : Bytes) (n : ℕ) (p q : ℕ → Bool) (by : Option (ℕ × Op)) (v w : Option Bytes)
    → ((t : ℕ) (o : Op) → by ≡ Some (t, o) → is_on k o ≡ true → (p n ≡ q n) ⊎ (is_add o ≡ true)) → SeenAlike v w
    → SeenAlike (value_kept k n p by v) (value_kept k n q by w)
seen_kept k n p q None v w same h = h
seen_kept k n p q (Some by) v w same h = seen_chosen (is_on k by.1) (p n) (q n) by.1 v w (same by.0 by.1 refl) h

seen_where : (k : Bytes) (p q : ℕ → Bool) (log : List Record)
    → ((n t : ℕ) (o : Op) → IsOpBy log n t o → is_on k o ≡ true → (p n ≡ q n) ⊎ (is_add o ≡ true))
    → SeenAlike (value_where k p log) (value_where k q log)
seen_where k p q [] same = tt
seen_where k p q (r ∷ log) same =
    seen_kept k (length log + 1) p q (op_of r) (value_where k p log) (value_where k q log)
    (λ t o is on. same (length log + 1) t o (at_newest (AnOp t o) r log (length log + 1) refl is) on)
    (seen_where k p q log (λ n t o is on. same n t o (kept_at (AnOp t o) r log n (op_number log n t o is) is) on))

-- so an operation is answered alike where they agree but for Adds, where it is one
pub answers_alike : (k : Bytes) (p q : ℕ → Bool) (log : List Record) (o : Op)
    → ((n t : ℕ) (x : Op) → IsOpBy log n t x → is_on k x ≡ true → (p n ≡ q n) ⊎ AreAdds o x)
    → answer_at o (value_where k p log) ≡ answer_at o (value_where k q log)
answers_alike k p q log o same =
    elim (cases_Bool (is_add o)) [
      | inl add ↦ answered_alike o (value_where k p log) (value_where k q log) add (seen_where k p q log
          (λ n t x is on. elim (same n t x is on) [ inl e ↦ inl e | inr both ↦ inr both.1 ]))
      | inr none ↦ ap (answer_at o) (values_alike k p q log
          (λ n t x is on. elim (same n t x is on)
          [ inl e ↦ e | inr both ↦ absurd (true≢false (sym both.0 ∙ none)) ]))
    ]

-- a request is no answer
request_answers_none : (o : Op) (r : Record) (log : List Record) (n : ℕ) → ARequest o (Some r)
    → answer_of (r ∷ log) n ≡ answer_of log n
request_answers_none o r log n h = grind arith

-- an answer that is the newest record, or was there
right_now : (r : Record) (log : List Record) (n : ℕ) (a : Answer) → HasRightAnswers (r ∷ log)
    → answer_of (r ∷ log) n ≡ Some a
    → (answer_of log n ≡ Some a → IsRight log n a) → IsRight log n a
right_now r log n a right answered h = grind arith

-- where the answers of a legal log are right, so is each answer that it has
pub right_at : (log : List Record) (n : ℕ) (a : Answer) → IsLegal log → HasRightAnswers log → answer_of log n ≡ Some a
    → IsRight log n a
right_at [] n a legal right answered o asks = absurd (cc)
right_at (r ∷ log) n a legal right answered o asks =
    elim (which r log n (request_number (r ∷ log) n o asks)) [
      | inl e ↦
          let none : answer_of log (length log + 1) ≡ Some a =
          ap (answer_of log) (sym e) ∙ sym (request_answers_none o r log n (newest_at (ARequest o) r log n e asks))
          ∙ answered in
          absurd (true≢false (sym (ap is_some none) ∙ unanswered_next log legal.1))
      | inr was ↦
          subst (λ x. a ≡ answer_at o (value_on (key_of o) x)) (sym (before_old r log n (not_newest log n was)))
          (right_now r log n a right answered (right_at log n a legal.1 (right_rest r log right)) o
          (had_at (ARequest o) r log n was asks))
    ]
