-- One pass over a log: what was found so far is right again after each record.
use Rattle.std.proofs.Common.{◌≡◌, ℕ, ◌+◌, ◌-◌, ◌<◌, ◌⊎◌, Bool, true, false, List, [], ◌∷◌, ◌++◌, length, drop, get_or, Some, is_some, refl, sym, ap, ◌∙◌, subst, arith, inl, inr, true≢false}
use Rattle.std.specs.Prelude.{◌&&◌, not, if◌then◌else◌}
use Rattle.std.specs.List.{All}
use Rattle.std.specs.List.Sorted.{IsStrictlyIncreasing}
use Rattle.std.proofs.Math.ListN.{get_or-append}
use Rattle.std.proofs.Math.Seq.{get_or-append_seam}
use Rattle.std.proofs.lemmas.Bool.{cases_eq, cases_lt}
use Rattle.std.proofs.lemmas.List.{length-append, append-nil}
use Rattle.std.proofs.lemmas.List.Elements.{All-weaker}
use Rattle.history.specs.declared.record.Record.{Record}
use Rattle.history.specs.declared.record.Record.TheVariants as is
use Rattle.history.specs.Log.{record_at, answer_of, request_in}
use Rattle.history.specs.Legal.{Fits, IsLegal}
use Rattle.log_laws.specs.Reading.{LacksAnswer}
use Rattle.log_laws.proofs.Records.{newest_at, older_at, within, record_new}
use Rattle.log_laws.proofs.Strict.{end_ends}
use Rattle.framed_log.proofs.Beginning.{shorter, of_beginning}
use Rattle.tc_log.proofs.Checkpointed.{named_back, named_kept, named_had}
use Rattle.framed_log.specs.Beginning.{beginning}
use Rattle.tc_restart.specs.Lists.{Lists}
use Rattle.tc_restart.specs.Plan.{HasCommit, AreMissing, committed_by, lacking}
use Rattle.tc_restart.proofs.Lists.{lists_same, lists_more, at_end}

-- the first records and the next one
pub part_more : (log : List Record) (n : ℕ) (r : Record) → record_at log (n + 1) ≡ Some r
    → beginning log (n + 1) ≡ r ∷ beginning log n
part_more [] n r is = absurd (cc)
part_more (q ∷ log) n r is =
    elim (cases_eq n (length log)) [
      | inl e ↦
          let same : Some q ≡ Some r = newest_at (λ x. x ≡ Some r) q log (n + 1) (omega (arith, e)) is in
          let equal : q ≡ r = cc in
          let all : length (q ∷ log) - (n + 1) ≡ 0 = omega (arith, e) in
          let but_one : length (q ∷ log) - n ≡ 1 = omega (arith, e) in
          ap (λ (k : ℕ). drop k (q ∷ log)) all ∙ ap (λ x. x ∷ log) equal
          ∙ ap (λ rest. r ∷ rest) (sym (ap (λ (k : ℕ). drop k (q ∷ log)) but_one))
      | inr e ↦
          let was : record_at log (n + 1) ≡ Some r = older_at (λ x. x ≡ Some r) q log (n + 1) (λ f. e (omega arith))
          is in
          let number = within (λ x. x ≡ Some r) (λ f. cc) log (n + 1) was in
          shorter q log (n + 1) number.bounded ∙ part_more log n r was
          ∙ ap (λ rest. r ∷ rest) (sym (shorter q log n (omega (arith, number.bounded))))
    ]

pub legal_part : (log : List Record) (n : ℕ) → IsLegal log → IsLegal (beginning log n)
legal_part log n legal = of_beginning IsLegal n (λ r l more h. h.1) log legal

-- winners

no_winner : (r : Record) (log : List Record) (winners : List ℕ) → ((t : ℕ) → r ≡ is.Commit t → ⊥)
    → Lists (HasCommit log) winners → Lists (HasCommit (r ∷ log)) (winners ++ [])
no_winner r log winners none h =
    subst (Lists (HasCommit (r ∷ log))) (sym (append-nil winners))
    (lists_same (HasCommit log) (HasCommit (r ∷ log)) (named_kept is.Commit r log)
    (λ t. named_had is.Commit r log t (none t)) winners h)

pub winners_more : (r : Record) (log : List Record) (winners : List ℕ) → Fits log r → Lists (HasCommit log) winners
    → Lists (HasCommit (r ∷ log)) (winners ++ committed_by r)
winners_more (is.Commit t) log winners fits h =
    let r : Record = is.Commit t in
    lists_more (HasCommit log) (HasCommit (r ∷ log)) t winners (winners ++ t ∷ []) (at_end t winners)
    (named_kept is.Commit r log)
    (λ u now. elim (named_back is.Commit r log u now) [ inl e ↦ inl (cc) | inr was ↦ inr was ])
    (length log + 1, record_new r log)
    (λ was. true≢false (sym (end_ends log t was.0 (inl was.1)) ∙ fits.open_txn.goes_on)) h
winners_more r log winners fits h = no_winner r log winners (λ t e. cc) h

-- requests without an answer

lacks_more : (log : List Record) (end n : ℕ) → LacksAnswer log end n → LacksAnswer log (end + 1) n
lacks_more log end n h = record { below = omega (arith, h.below); requested = h.requested; unanswered = h.unanswered }

lacks_back : (log : List Record) (end n : ℕ) → LacksAnswer log (end + 1) n → (n ≡ end + 1) ⊎ LacksAnswer log end n
lacks_back log end n h =
    elim (cases_eq n (end + 1)) [
      | inl e ↦ inl e
      | inr e ↦ inr (record { below = omega (arith, h.below, e); requested = h.requested; unanswered = h.unanswered })
    ]

rising_push : (xs : List ℕ) (x : ℕ) → All (λ m. m < x) xs → IsStrictlyIncreasing xs
    → IsStrictlyIncreasing (xs ++ x ∷ [])
rising_push xs x below h k within =
    let size = length-append xs (x ∷ []) in
    let here : get_or (xs ++ x ∷ []) k 0 ≡ get_or xs k 0 = get_or-append xs (x ∷ []) 0 k (omega (arith, within, size))
    in
    elim (cases_lt (k + 1) (length xs)) [
      | inl less ↦ omega (arith, here, get_or-append xs (x ∷ []) 0 (k + 1) less, h k less)
      | inr last ↦
          let end : k + 1 ≡ length xs = omega (arith, within, size, last) in
          omega (
            arith,
            here,
            ap (λ (i : ℕ). get_or (xs ++ x ∷ []) i 0) end
                ∙ get_or-append_seam xs x [] 0,
            below k 0 (omega (arith, end)),
          )
    ]

none_lacking : (log : List Record) (end : ℕ) (missing : List ℕ) → (LacksAnswer log (end + 1) (end + 1) → ⊥)
    → AreMissing log end missing
    → AreMissing log (end + 1) (missing ++ [])
none_lacking log end missing none h =
    subst (AreMissing log (end + 1)) (sym (append-nil missing)) (record {
      listed = lists_same (LacksAnswer log end) (LacksAnswer log (end + 1)) (lacks_more log end)
          (λ n now. elim (lacks_back log end n now)
          [ inl e ↦ absurd (none (subst (LacksAnswer log (end + 1)) e now)) | inr was ↦ was ]) missing h.listed;
      rising = h.rising;
    })

lacking_if : (log : List Record) (end : ℕ) (missing : List ℕ) (a b : Bool)
    → is_some (request_in (record_at log (end + 1))) ≡ a → is_some (answer_of log (end + 1)) ≡ b
    → AreMissing log end missing
    → AreMissing log (end + 1) (missing ++ (if a && not b then (end + 1) ∷ [] else []))
lacking_if log end missing true false asks answer h =
    let now : LacksAnswer log (end + 1) (end + 1) = record
    { below = omega arith; requested = asks; unanswered = answer } in
    record {
      listed = lists_more (LacksAnswer log end) (LacksAnswer log (end + 1)) (end + 1) missing
          (missing ++ (end + 1) ∷ []) (at_end (end + 1) missing)
          (lacks_more log end) (lacks_back log end) now (λ was. omega (arith, was.below)) h.listed;
      rising = rising_push missing (end + 1)
          (All-weaker (LacksAnswer log end) (λ m. m < end + 1) (λ m is. omega (arith, is.below)) missing
          h.listed.right) h.rising;
    }
lacking_if log end missing true true asks answer h = none_lacking log end missing
    (λ now. true≢false (sym answer ∙ now.unanswered)) h
lacking_if log end missing false b asks answer h = none_lacking log end missing
    (λ now. true≢false (sym now.requested ∙ asks)) h

pub missing_more : (log : List Record) (end : ℕ) (missing : List ℕ) → AreMissing log end missing
    → AreMissing log (end + 1) (missing ++ lacking log (end + 1))
missing_more log end missing h =
    lacking_if log end missing (is_some (request_in (record_at log (end + 1)))) (is_some (answer_of log (end + 1)))
    refl refl h
