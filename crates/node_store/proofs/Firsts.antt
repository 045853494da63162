-- The first record that is wrong, while records are judged one after another.
use Rattle.std.proofs.Common.{◌≡◌, ◌≢◌, ℕ, ◌+◌, List, [], ◌∷◌, length, Some, None, Option, is_some, true, false, refl, sym, ◌∙◌, subst, inl, inr}
use Rattle.std.proofs.lemmas.Bool.{cases_eq}
use Rattle.history.specs.declared.record.Record.{Record}
use Rattle.history.specs.declared.record.Record.TheVariants as is
use Rattle.history.specs.Log.{before}
use Rattle.history.specs.Values.{HasRightAnswers}
use Rattle.log_laws.proofs.Records.{newest_at, older_at, at_newest, record_old, before_old, before_new, within, not_newest}
use Rattle.node_store.specs.Opening.{HasNoCheckpoint, IsFirst, IsFit, IsWrong, IsWrongIn}
use Rattle.node_store.specs.Judging.{IsJudged}
use Rattle.node_store.specs.declared.unopened.Cause.{Cause}
use Rattle.node_store.specs.declared.unopened.Cause.TheVariants as no

pub none_checked : HasNoCheckpoint []
none_checked n low at = cc

-- with a record more that is of no checkpoint
pub still_none : (r : Record) (log : List Record) → ((low : ℕ) → r ≡ is.Checkpoint low → ⊥) → HasNoCheckpoint log
    → HasNoCheckpoint (r ∷ log)
still_none r log plain none n low at =
    elim (cases_eq n (length log + 1)) [
      | inl e ↦
          let both : Some r ≡ Some (is.Checkpoint low) = newest_at (λ x. x ≡ Some (is.Checkpoint low)) r log n e at in
          plain low cc
      | inr e ↦ none n low (older_at (λ x. x ≡ Some (is.Checkpoint low)) r log n e at)
    ]

-- the newest record, after others that are fit
pub first_next : (r : Record) (log : List Record) (n : ℕ) → n ≡ length log + 1 → IsFit log → IsFirst (r ∷ log) n r
first_next r log n e fit = record {
  stands = at_newest (λ x. x ≡ Some r) r log n e refl;
  fit = subst IsFit (sym (before_new r log n e)) fit;
}

-- and with it the answers aren't right
pub wrong_next : (r : Record) (log : List Record) (n : ℕ) → n ≡ length log + 1 → IsFit log
    → (HasRightAnswers (r ∷ log) → ⊥) → IsWrong (r ∷ log) n
wrong_next r log n e fit wrong = record {
  next = r;
  first = first_next r log n e fit;
  wrong = λ right. wrong (subst (λ (l : List Record). HasRightAnswers (r ∷ l)) (before_new r log n e) right);
}

-- which it stays with a record more
apart : (r : Record) (log : List Record) (n : ℕ) (next : Record) → IsFirst log n next → n ≢ length log + 1
apart r log n next first = not_newest log n (within (λ x. x ≡ Some next) (λ none. cc) log n first.stands)

first_longer : (r : Record) (log : List Record) (n : ℕ) (next : Record) → IsFirst log n next → IsFirst (r ∷ log) n next
first_longer r log n next first =
    let old : n ≢ length log + 1 = apart r log n next first in record {
      stands = record_old r log n old ∙ first.stands;
      fit = subst IsFit (sym (before_old r log n old)) first.fit;
    }

pub wrong_longer : (r : Record) (log : List Record) (cause : Cause) → IsWrongIn log cause → IsWrongIn (r ∷ log) cause
wrong_longer r log (no.Refused refusal) wrong = wrong
wrong_longer r log (no.Checkpoint n) (low, first) = (low, first_longer r log n (is.Checkpoint low) first)
wrong_longer r log (no.WrongAnswer n) wrong = record {
  next = wrong.next;
  first = first_longer r log n wrong.next wrong.first;
  wrong =
      let old : before (r ∷ log) n ≡ before log n = before_old r log n (apart r log n wrong.next wrong.first) in
      λ right. wrong.wrong (subst (λ (l : List Record). HasRightAnswers (wrong.next ∷ l)) old right);
}

-- what was judged wrong before a record more is so with it
pub still_judged : (r : Record) (log taken : List Record) (wrong : Option Cause) → is_some wrong ≡ true
    → IsJudged log taken wrong → IsJudged (r ∷ log) taken wrong
still_judged r log taken None some judged = absurd (cc)
still_judged r log taken (Some cause) some judged = wrong_longer r log cause judged

-- and where none was wrong all were taken
pub all_taken : (log taken : List Record) (wrong : Option Cause) → is_some wrong ≡ false → IsJudged log taken wrong
    → taken ≡ log
all_taken log taken None none judged = judged.0
all_taken log taken (Some cause) none judged = absurd (cc)
