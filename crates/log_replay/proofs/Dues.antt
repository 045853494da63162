-- What a request is still to get is what it gets, until it has an answer.
use Rattle.std.proofs.Common.{◌≡◌, ◌≢◌, ℕ, ◌+◌, ◌<◌, Bool, true, false, List, [], ◌∷◌, length, Option, Some, None, cond, refl, sym, ap, ◌∙◌, arith, inl, inr, eq-eqb, ne_eqb}
use Rattle.std.proofs.lemmas.Bool.{cases_eq}
use Rattle.std.proofs.lemmas.Bool.Decides.{nat_tests}
use Rattle.std.specs.BTreeMap.{BTreeMap, IsUnchanged, Updates}
use Rattle.std.specs.Map.{lookup}
use Rattle.std.specs.Ordering.{is_eq, nat_cmp}
use Rattle.std.specs.Prelude.{◌==◌}
use Rattle.record_key.specs.Laws.{key_cmp}
use Rattle.record_key.specs.Table.{Bytes}
use Rattle.record_key.specs.declared.op.Op.{Op}
use Rattle.record_key.specs.declared.op.Answer.{Answer}
use Rattle.history.specs.declared.record.Record.{Record}
use Rattle.history.specs.declared.record.Record.TheVariants as is
use Rattle.history.specs.Log.{record_at, before, request_of, request_in, answer_of}
use Rattle.log_laws.proofs.Records.{record_new, record_old, before_new, before_old, beyond}
use Rattle.log_replay.specs.Kept.{due_to, due_at, due_asked, due_left, due_held, Follows}

-- the newest record gets what its request gets after the others
due_new : (r : Record) (log : List Record) (n : ℕ) → n ≡ length log + 1 → due_at (r ∷ log) n ≡ due_to log (request_of r)
due_new r log n e =
    ap (λ x. due_to (before (r ∷ log) n) (request_in x)) (ap (record_at (r ∷ log)) e ∙ record_new r log)
    ∙ ap (λ x. due_to x (request_of r)) (before_new r log n e)

-- any other gets what it did
due_old : (r : Record) (log : List Record) (n : ℕ) → n ≢ length log + 1 → due_at (r ∷ log) n ≡ due_at log n
due_old r log n e =
    ap (λ x. due_to (before (r ∷ log) n) (request_in x)) (record_old r log n e)
    ∙ ap (λ x. due_to x (request_in (record_at log n))) (before_old r log n e)

-- a number of no record gets nothing
none_due : (log : List Record) (n : ℕ) → length log < n → due_at log n ≡ None
none_due log n out = ap (λ x. due_to (before log n) (request_in x)) (beyond log n (λ within some. omega (arith, within, out)))

-- where the others have what they are to get, so has the newest record
asked_is : (r : Record) (log : List Record) (n : ℕ) (asked : Option Op) → request_of r ≡ asked
    → due_left log n ≡ due_at log n → due_asked log asked n (due_left log n) ≡ due_at (r ∷ log) n
asked_is r log n None e same =
    elim (cases_eq n (length log + 1)) [
      | inl at ↦ same ∙ none_due log n (omega (arith, at)) ∙ sym (due_new r log n at ∙ ap (due_to log) e)
      | inr apart ↦ same ∙ sym (due_old r log n apart)
    ]
asked_is r log n (Some o) e same =
    let left : Bool → Option Answer = λ b. cond b (due_to log (Some o)) (due_left log n) in
    elim (cases_eq n (length log + 1)) [
      | inl at ↦ ap left (eq-eqb n (length log + 1) at) ∙ sym (due_new r log n at ∙ ap (due_to log) e)
      | inr apart ↦ ap left (ne_eqb n (length log + 1) apart) ∙ same ∙ sym (due_old r log n apart)
    ]

pub left_is : (log : List Record) (n : ℕ) → answer_of log n ≡ None → due_left log n ≡ due_at log n
left_is [] n none = refl
left_is (is.Answer m a ∷ log) n none =
    elim (cases_eq n m) [
      | inl e ↦ absurd (let some = ap (λ b. cond b (Some a) (answer_of log n)) (eq-eqb n m e) in cc)
      | inr e ↦
          let older : answer_of log n ≡ None =
          sym (ap (λ b. cond b (Some a) (answer_of log n)) (ne_eqb n m e)) ∙ none in
          ap (λ b. cond b None (due_left log n)) (ne_eqb n m e)
          ∙ asked_is (is.Answer m a) log n None refl (left_is log n older)
    ]
left_is (r ∷ log) n none = asked_is r log n (request_of r) refl (left_is log n none)

-- beyond the log nothing is left
asked_none : (log : List Record) (n : ℕ) (asked : Option Op) (due : Option Answer) → length log + 1 < n → due ≡ None
    → due_asked log asked n due ≡ None
asked_none log n None due out none = none
asked_none log n (Some o) due out none =
    ap (λ b. cond b (due_to log (Some o)) due) (ne_eqb n (length log + 1) (λ e. omega (arith, e, out))) ∙ none

beyond_next : (r : Record) (log : List Record) (n : ℕ) → length (r ∷ log) < n → length log + 1 < n
beyond_next r log n out = omega (arith, out)

longer : (r : Record) (log : List Record) (n : ℕ) → length (r ∷ log) < n → length log < n
longer r log n out = omega (arith, out)

either_none : (b : Bool) (due : Option Answer) → due ≡ None → cond b None due ≡ None
either_none true due none = refl
either_none false due none = none

pub none_left : (log : List Record) (n : ℕ) → length log < n → due_left log n ≡ None
none_left [] n out = refl
none_left (is.Answer m a ∷ log) n out =
    either_none (n == m) (due_left log n) (none_left log n (longer (is.Answer m a) log n out))
none_left (r ∷ log) n out =
    asked_none log n (request_of r) (due_left log n) (beyond_next r log n out) (none_left log n (longer r log n out))

other : (n m : ℕ) → m ≢ n → is_eq (nat_cmp n m) ≡ false
other n m apart = grind (arith, nat_tests)

-- what came of a request that was taken back: nothing
pub taken_back : (log : List Record) (values values' : BTreeMap Bytes Bytes) (dues dues' dues'' : BTreeMap ℕ Answer) (n : ℕ)
    (due : Option Answer) → Follows log values dues → n ≡ length log + 1 → IsUnchanged values values'
    → Updates nat_cmp dues dues' n due → Updates nat_cmp dues' dues'' n None → Follows log values' dues''
taken_back log values values' dues dues' dues'' n due follows is same there back =
    record {
      of_keys = λ k. ap (λ es. lookup (λ q. is_eq (key_cmp k q)) es) same ∙ follows.of_keys k;
      of_requests = λ m.
          elim (cases_eq m n) [
            | inl e ↦ ap (due_held dues'') e ∙ back.1 ∙ sym (none_left log n (omega (arith, is))) ∙ ap (due_left log) (sym e)
            | inr apart ↦ back.2 m (other n m apart) ∙ there.2 m (other n m apart) ∙ follows.of_requests m
          ];
    }
