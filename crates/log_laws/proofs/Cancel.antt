-- Operations and inverses together leave what the operations that stand leave alone.
use Rattle.std.proofs.lemmas.Bool.Decides.{nat_tests}
use Rattle.std.proofs.Common.{arith, ◌≡◌, ℕ, ◌+◌, false, List, [], ◌∷◌, length, Option, Some, refl, sym, ap, ◌∙◌, subst, inl, inr, true≢false, ne_eqb}
use Rattle.std.specs.Prelude.{◌||◌, ◌==◌, not}
use Rattle.std.proofs.lemmas.Bool.{cases_eq, cases_Bool}
use Rattle.record_key.specs.declared.op.Op.{Op}
use Rattle.record_key.specs.declared.op.Answer.{Answer}
use Rattle.record_key.specs.Table.{Bytes, key_of, is_add, answer_at, value_after}
use Rattle.record_key.proofs.Tables.{is_same-refl, is_same-true}
use Rattle.inverse.specs.Inverse.{inverse_of, IsEffective}
use Rattle.inverse.proofs.Undo.{PutsBack, Outcome, outcome}
use Rattle.history.specs.declared.record.Record.{Record}
use Rattle.history.specs.declared.record.Record.TheVariants as is
use Rattle.history.specs.Log.{record_at, before, is_crossed, Requests, IsOpBy}
use Rattle.history.specs.Legal.{Fits, FitsComp, IsLegal}
use Rattle.history.specs.Chains.{adds_next}
use Rattle.history.specs.Values.{is_on, value_with, value_on, value_where, value_standing, value_without, HasRightAnswers}
use Rattle.log_laws.specs.Laws.{Brackets, CompensationsBracket, AddsRequestAdds, CompensationsCancel}
use Rattle.log_laws.proofs.Records.{ARequest, newest_at, older_at, op_request, op_same, until}
use Rattle.log_laws.proofs.Adding.{adds_newest, adds_older, comp_adds}
use Rattle.log_laws.proofs.LegalLogs.{uncrossed_next, right_rest}
use Rattle.log_laws.proofs.Values.{values_alike, right_at}
use Rattle.log_laws.proofs.Compensations.{undone_is, standing_left, answered_without, standing_without}

-- at the operation's key its inverse gives back what was there
pub given_back : (o : Op) (r : Option Bytes) (i : Option Op) → Outcome o r i → value_with (key_of o) i (value_after o r) ≡ r
given_back o r i h = grind (arith, is_same-refl)

-- and at another key it does nothing
pub elsewhere : (k : Bytes) (o : Op) (a : Answer) (i : Option Op) (r : Option Bytes) → is_on k o ≡ false
    → i ≡ inverse_of o a → value_with k i r ≡ r
elsewhere k o a i r off e = grind arith

-- what the law says of a log and of all its beginnings
abbrev Cancels : List Record → Type 0
Cancels log = (k : Bytes) → value_on k log ≡ value_standing k log

-- of the log and each beginning of it
abbrev AllCancel : List Record → Type 0
AllCancel [] = Unit {0}
AllCancel (r ∷ log) = Cancels (r ∷ log) × AllCancel log

-- the log is one of its beginnings
cancels : (log : List Record) → AllCancel log → Cancels log
cancels [] h k = refl
cancels (r ∷ log) h k = h.0 k

-- and so is what stands before a number
all_cancel-before : (log : List Record) (n : ℕ) → AllCancel log → AllCancel (before log n)
all_cancel-before = until AllCancel tt (λ r log h. h.1)

-- a compensation in a legal log with right answers, all of whose beginnings cancel
module _ (log : List Record) (t u x : ℕ) (i : Option Op) (legal : IsLegal log) (fits : FitsComp log t u x i)
    (right : HasRightAnswers log) (all : AllCancel log) where
  abbrev o : Op
  o = fits.inverse.op

  -- what was at the key before the operation, and what the others that stand leave there
  abbrev was : Option Bytes
  was = value_on (key_of o) (before log u)

  abbrev others : Option Bytes
  others = value_without (key_of o) u log

  -- the operation is answered after the others as it was, so the inverse is that of what they leave
  answered_as : answer_at o others ≡ answer_at o was
  answered_as = answered_without log t u x i legal fits
      ∙ ap (answer_at o) (sym (cancels (before log u) (all_cancel-before log u all) (key_of o)))

  outcome_there : Outcome o others i
  outcome_there =
      let asks : Requests log u o = op_request t o (record_at log u) (undone_is log t u x i legal fits) in
      let right_answer : fits.inverse.answer ≡ answer_at o was =
      right_at log u fits.inverse.answer legal right fits.inverse.answered o asks in
      let P : Option Op → Type 0 = Outcome o others in
      subst P (sym (fits.inverse.inverse ∙ ap (inverse_of o) (right_answer ∙ sym answered_as))) (outcome o others)

  -- what the log leaves at the key is what the operation leaves of what the others do
  left_there : value_on (key_of o) log ≡ value_after o others
  left_there = cancels log all (key_of o) ∙ standing_left log t u x i legal fits

  -- at the key the inverse takes the operation away
  cancelled_there : value_with (key_of o) i (value_on (key_of o) log) ≡ others
  cancelled_there = ap (value_with (key_of o) i) left_there ∙ given_back o others i outcome_there

  -- unless it is an Add, what the others leave was there
  others_were : is_add o ≡ false → others ≡ was
  others_were none = standing_without log t u x i legal fits none
      ∙ sym (cancels (before log u) (all_cancel-before log u all) (key_of o))

  -- at another key nothing changes
  cancelled_elsewhere : (k : Bytes) → is_on k o ≡ false
      → value_with k i (value_on k log) ≡ value_where k (λ n. not ((n == u) || is_crossed log n)) log
  cancelled_elsewhere k off =
      grind (arith, nat_tests, elsewhere, cancels, values_alike, true≢false, op_same, undone_is, ne_eqb)

  -- so a log cancels still with a compensation more
  comp_cancels : Cancels (is.Comp t u x i ∷ log)
  comp_cancels k =
      elim (cases_Bool (is_on k o)) [
        | inl on ↦
            let P : Bytes → Type 0 =
            λ q. value_with q i (value_on q log) ≡ value_where q (λ n. not ((n == u) || is_crossed log n)) log in
            subst P (sym (is_same-true k (key_of o) on)) cancelled_there
        | inr off ↦ cancelled_elsewhere k off
      ]

-- and with any record that fits
cancels_next : (r : Record) (log : List Record) → Fits log r → IsLegal log → HasRightAnswers log → AllCancel log
    → Cancels (r ∷ log)
cancels_next (is.Op t p o) log fits legal right all k = grind (arith, cancels, uncrossed_next)
cancels_next (is.Comp t u x i) log fits legal right all k = comp_cancels log t u x i legal fits right all k
cancels_next _ log fits legal right all k = cancels log all k

-- a legal log with right answers cancels, and so do its beginnings
all_cancel : (log : List Record) → IsLegal log → HasRightAnswers log → AllCancel log
all_cancel [] legal right = tt
all_cancel (r ∷ log) legal right =
    grind (arith, all_cancel log legal.1 (right_rest r log right), right_rest, cancels_next)

-- operations and inverses together leave what stands
pub cancel : CompensationsCancel
cancel log legal right = cancels log (all_cancel log legal right)

-- what the compensation finds and gives back, for the operation that it names
bracket_there : (log : List Record) (t u x : ℕ) (i : Op) (legal : IsLegal log) (fits : FitsComp log t u x (Some i))
    → HasRightAnswers log → AllCancel log
    → Brackets log u fits.inverse.op i
bracket_there log t u x i legal fits right all =
    let o : Op = fits.inverse.op in
    let puts_back : PutsBack o i (value_without (key_of o) u log) =
    outcome_there log t u x (Some i) legal fits right all in
    let there : value_on (key_of o) log ≡ value_after o (value_without (key_of o) u log) =
    left_there log t u x (Some i) legal fits right all in
    record {
      same_key = puts_back.key;
      left = there;
      given_back = ap (value_after i) there ∙ puts_back.value;
      was = others_were log t u x (Some i) legal fits right all;
      effective = subst (λ r. IsEffective (answer_at i r)) (sym there) puts_back.effective;
    }

-- the same for an operation that is told to stand there
pub bracket : CompensationsBracket
bracket log t u x o i legal right is_op =
    let fits = legal.0 in
    let all = all_cancel log legal.1 right in
    let same : fits.inverse.op ≡ o =
    (op_same t t fits.inverse.op o (record_at log u) (undone_is log t u x (Some i) legal.1 fits) is_op).1 in
    subst (λ q. Brackets log u q i) same (bracket_there log t u x i legal.1 fits right all)

-- a right inverse is an Add just where what it undoes is one
inverse_adds : (o : Op) (r : Option Bytes) (i : Op) → Outcome o r (Some i) → is_add i ≡ is_add o
inverse_adds o r i back = back.adds

adds_now : (r : Record) (log : List Record) (o : Op) → Fits log r → IsLegal log → HasRightAnswers log
    → ARequest o (Some r) → is_add o ≡ adds_next log r
adds_now (is.Op t p q) log o fits legal right asks = let same : q ≡ o = cc in ap is_add (sym same)
adds_now (is.Comp t u x i) log o fits legal right asks =
    let q : Op = fits.inverse.op in
    let is_op : IsOpBy log u t q = undone_is log t u x i legal fits in
    let was : Option Bytes = value_on (key_of q) (before log u) in
    let answered : fits.inverse.answer ≡ answer_at q was =
    right_at log u fits.inverse.answer legal right fits.inverse.answered q (op_request t q (record_at log u) is_op) in
    let P : Option Op → Type 0 = Outcome q was in
    let back : Outcome q was (Some o) =
    subst P (sym (ap (inverse_of q) answered) ∙ sym fits.inverse.inverse ∙ asks) (outcome q was) in
    inverse_adds q was o back ∙ sym (comp_adds log t u x t i q is_op)
adds_now _ log o fits legal right asks = absurd (cc)

-- so requests are Adds just where their records do an Add or undo one
pub adds_request : AddsRequestAdds
adds_request [] n o legal right asks = absurd (cc)
adds_request (r ∷ log) n o legal right asks =
    let rest : HasRightAnswers log = right_rest r log right in
    elim (cases_eq n (length log + 1)) [
      | inl e ↦ adds_now r log o legal.0 legal.1 rest (newest_at (ARequest o) r log n e asks)
          ∙ sym (adds_newest r log n e)
      | inr e ↦ adds_request log n o legal.1 rest (older_at (ARequest o) r log n e asks) ∙ sym (adds_older r log n e)
    ]
