-- Keys that are at rest, by the log.
use Rattle.std.proofs.Common.{◌≡◌, ℕ, ◌<◌, Bool, true, false, cond, List, [], ◌∷◌, is_some, refl, sym, ap, ◌∙◌, subst, arith, inl, inr, true≢false}
use Rattle.std.specs.Prelude.{◌&&◌, not, filter}
use Rattle.std.specs.List.{AllByRecursion}
use Rattle.std.proofs.lemmas.Bool.{cases_Bool, cases_lt}
use Rattle.record_key.specs.declared.op.Op.{Op}
use Rattle.record_key.specs.Table.{Bytes, key_of}
use Rattle.history.specs.History.{Entry}
use Rattle.history.specs.Log.{record_at, is_crossed, has_ended, hist}
use Rattle.history.specs.Legal.{IsLegal}
use Rattle.history.specs.ListMachine.{Machine, Waiting, HasStatus}
use Rattle.log_laws.proofs.Records.{op_step}
use Rattle.log_laws.proofs.LegalLogs.{begun}
use Rattle.log_laws.proofs.Strict.{end_ends, end_number}
use Rattle.log_laws.proofs.Named.{unanswered_uncrossed}
use Rattle.simulation.specs.View.{View, IsRecorded, HasStatusOf, counts, is_to_undo, standing, opened, StandsFor}
use Rattle.simulation.specs.Lasting.{IsOwned, IsLastAt, IsSettledAt, AtRestByTheLog, OpenedIsAtRest}
use Rattle.simulation.proofs.Beginnings.{end_at, left_open, undone_wholly}
use Rattle.simulation.proofs.Placing.{all_hist}
use Rattle.simulation.proofs.Committing.{stable_is_committed}

-- what stands by the entries stands by the list
all_standing : (P : Entry → Type 0) (h : List Entry) → AllByRecursion P (standing h)
    → AllByRecursion (λ e. e.crossed ≡ false → P e) h
all_standing P [] all = tt
all_standing P (e ∷ h) all = let both = by e.crossed refl all in (both.0, all_standing P h both.1)
  where
    by : (c : Bool) → e.crossed ≡ c → AllByRecursion P (cond (not c) (e ∷ standing h) (standing h))
        → (e.crossed ≡ false → P e) × AllByRecursion P (standing h)
    by true crossed all = (λ stands. absurd (true≢false (sym crossed ∙ stands)), all)
    by false crossed all = (λ stands. all.0, all.1)

-- an entry that counts is of no loser, and not undone
abbrev Counts : View → Entry → Type 0
Counts v e = (v.loses e.txn ≡ false) × (is_crossed v.log e.number ≡ false)

counts_so : (c l d : Bool) → (not c && (not l && not d)) ≡ true → (l ≡ false) × (c ≡ false)
counts_so c l d h = grind arith

all_counted : (v : View) (h : List Entry) → AllByRecursion (λ e. e.crossed ≡ is_crossed v.log e.number) h
    → AllByRecursion (Counts v) (filter (counts v) h)
all_counted v [] as_logged = tt
all_counted v (e ∷ h) as_logged = by (counts v e) refl (all_counted v h as_logged.1)
  where
    by : (b : Bool) → counts v e ≡ b → AllByRecursion (Counts v) (filter (counts v) h)
        → AllByRecursion (Counts v) (cond b (e ∷ filter (counts v) h) (filter (counts v) h))
    by true counted rest =
        let both = counts_so e.crossed (v.loses e.txn) (is_to_undo (v.doing e.txn) e.number) counted in
        ((both.0, sym as_logged.0 ∙ both.1), rest)
    by false counted rest = rest

module _ (v : View) (m : Machine) (k : Bytes) (legal : IsLegal v.log) (stands : StandsFor v m)
    (settled : IsSettledAt v k)
  where
    counted : AllByRecursion (λ e. e.crossed ≡ false → Counts v e) m.h
    counted =
        all_standing (Counts v) m.h (subst (AllByRecursion (Counts v)) (sym stands.entries)
        (all_counted v (hist v.log)
        (all_hist (λ e. e.crossed ≡ is_crossed v.log e.number) v.log v.log (λ n t o by a. refl))))

    -- who isn't crossed has its record
    numbered : (e : Entry) → IsRecorded v.log e → e.crossed ≡ false → 0 < e.number
    numbered e recorded here = elim (cases_lt 0 e.number) [
      | inl some ↦ some
      | inr none ↦ absurd (true≢false (sym (recorded.lost (omega (arith, none))) ∙ here))
    ]

    owned : (e : Entry) → IsRecorded v.log e → (e.crossed ≡ false → Counts v e) → IsOwned m k e
    owned e recorded fact here on =
        elim (settled e.number e.txn e.op (recorded.is (numbered e recorded here)) on (fact here).1) [
          | inl loses ↦ absurd (true≢false (sym loses ∙ (fact here).0))
          | inr commit ↦
              let has = stable_is_committed v m e.txn commit.0 legal stands commit.1 commit.2 in
              (has.0.begun, has.0.status)
        ]

    all_owned : (h : List Entry) → AllByRecursion (IsRecorded v.log) h
        → AllByRecursion (λ e. e.crossed ≡ false → Counts v e) h
        → AllByRecursion (IsOwned m k) h
    all_owned [] recorded facts = tt
    all_owned (e ∷ h) recorded facts = (owned e recorded.0 facts.0, all_owned h recorded.1 facts.1)

    nobody_asks : (t n : ℕ) (o : Op) → HasStatus m t (Waiting n o) → key_of o ≡ k → ⊥
    nobody_asks t n o at on =
        let so : HasStatusOf v t (Waiting n o) = subst (HasStatusOf v t) at (stands.each t).status in
        elim (settled n t o so.1 on (unanswered_uncrossed v.log n legal (ap is_some so.2))) [
          | inl loses ↦ true≢false (sym loses ∙ so.0.stays)
          | inr commit ↦ true≢false (sym (end_ends v.log t commit.0 (inl commit.1)) ∙ so.0.open_txn.goes_on)
        ]

    rests : IsLastAt m k
    rests = record { owners = all_owned m.h stands.recorded counted; unasked = nobody_asks }

pub at_rest_by_the_log : AtRestByTheLog
at_rest_by_the_log v m k legal stands settled = rests v m k legal stands settled

pub opened_is_at_rest : OpenedIsAtRest
opened_is_at_rest log m k legal stands =
    at_rest_by_the_log (opened log) m k legal stands
    (λ n t o by on uncrossed.
    elim (cases_Bool (has_ended log t)) [
      | inl ended ↦ let was = end_at log t ended in elim (was.is_end) [
        | inl commit ↦ inr (was.end, commit, (end_number log t was.end was.is_end).bounded)
        | inr end ↦ absurd (true≢false (sym (undone_wholly log t was.end n o legal end by) ∙ uncrossed))
      ]
      | inr goes_on ↦
          let here = begun log t n legal (op_step t o (record_at log n) by) in
          inl (left_open log t (record { begun = here; goes_on = goes_on }))
    ])
