-- The losers that a log opens with are its losers.
use Rattle.std.proofs.Common.{◌≡◌, ◌≢◌, ℕ, ◌+◌, Bool, true, false, List, [], ◌∷◌, ◌++◌, length, map, Option, Some, None, refl, sym, ap, ◌∙◌, subst, arith, inl, inr, cond, eq-eqb, eqb-true, true≢false}
use Rattle.std.specs.Prelude.{◌==◌, not, filter, if◌then◌else◌}
use Rattle.std.proofs.lemmas.Bool.{cases_eq, not-true, not_from_false}
use Rattle.std.proofs.lemmas.List.Elements.{All-nil, All-append, All-filter, All-map, All-weaker, filter_passes}
use Rattle.std.proofs.lemmas.List.Filters.{sum_by-filter_both}
use Rattle.std.proofs.lemmas.List.Sorted.{IsPermutation-refl}
use Rattle.std.proofs.lemmas.List.Sums.{sum_by-append}
use Rattle.history.specs.declared.record.Record.{Record}
use Rattle.history.specs.declared.record.Record.TheVariants as is
use Rattle.history.specs.Log.{record_at, has_ended, step_of, IsStepOf}
use Rattle.history.specs.Legal.{IsLegal, Stands, IsLatestOrNone}
use Rattle.log_laws.proofs.Checking.{latest_some}
use Rattle.log_laws.proofs.Records.{AStep, at_newest, newest_at, older_at, record_new, not_newest}
use Rattle.log_laws.proofs.LegalLogs.{begun_number, kept_begun, step_number, stands_number}
use Rattle.log_laws.proofs.Undo.{latest_as, latest_found, steps_there, steps_back}
use Rattle.tc_restart.specs.declared.loser.Loser.{Loser}
use Rattle.tc_restart.specs.Lists.{times, Lists}
use Rattle.tc_restart.specs.Losers.{IsLoser, IsUndone, IsAt, AreLosers}
use Rattle.tc_restart.proofs.Lists.{lists_same, lists_more, not_listed}
use Rattle.tc_core.specs.Opened.{begun_in, open_in, last_in, loser_in, is_undone, losers_of}
use Rattle.tc_core.specs.Replies.{is_number}

-- a number is counted in those that pass a test and in those that don't
module _ (P : ℕ → Type 0) (test : ℕ → Bool) (xs : List ℕ) (h : Lists P xs) where
  abbrev passed : List ℕ
  passed = filter test xs

  abbrev failed : List ℕ
  failed = filter (λ n. not (test n)) xs

  counted : (n : ℕ) → times n passed + times n failed ≡ times n xs
  counted n = sum_by-filter_both test (λ m. not (test m)) (λ m. refl) (λ m. cond (n == m) 1 0) xs

  both_listed : Lists P (failed ++ passed)
  both_listed = record {
    right = All-append P failed passed (All-filter (λ n. not (test n)) P xs h.right) (All-filter test P xs h.right);
    once = λ n is. omega (arith, sum_by-append (λ m. cond (n == m) 1 0) failed passed, counted n, h.once n is);
  }

  passed_listed : Lists (λ n. P n × (test n ≡ true)) passed
  passed_listed = record {
    right = λ k d within. (All-filter test P xs h.right k d within, filter_passes test xs k d within);
    once = λ n is. omega (
      arith,
      counted n,
      h.once n is.0,
      not_listed n failed (All-weaker (λ m. not (test m) ≡ true) (λ m. n ≢ m)
          (λ m fails same. true≢false (sym is.1 ∙ ap test same ∙ not-true (test m) fails)) failed
          (filter_passes (λ m. not (test m)) xs)),
    );
  }

-- who began
abbrev HasBegun : List Record → ℕ → Type 0
HasBegun log t = record_at log t ≡ Some is.Begin

begun_same : (r : Record) (log : List Record) → (r ≡ is.Begin → ⊥) → Lists (HasBegun log) (begun_in log)
    → Lists (HasBegun (r ∷ log)) (begun_in log)
begun_same r log other h =
    lists_same (HasBegun log) (HasBegun (r ∷ log)) (kept_begun r log)
    (λ t now. older_at (λ x. x ≡ Some is.Begin) r log t
    (λ e. let same : Some r ≡ Some is.Begin = newest_at (λ x. x ≡ Some is.Begin) r log t e now in other (cc)) now)
    (begun_in log) h

begun_listed : (log : List Record) → Lists (HasBegun log) (begun_in log)
begun_listed [] = record { right = All-nil (HasBegun []); once = λ t e. absurd (cc) }
begun_listed (is.Begin ∷ log) =
    let r : Record = is.Begin in
    lists_more (HasBegun log) (HasBegun (r ∷ log)) (length log + 1) (begun_in log) ((length log + 1) ∷ begun_in log)
    (IsPermutation-refl ((length log + 1) ∷ begun_in log)) (kept_begun r log)
    (λ t now. elim (cases_eq t (length log + 1)) [
      | inl e ↦ inl e
      | inr e ↦ inr (older_at (λ x. x ≡ Some is.Begin) r log t e now)
    ])
    (record_new r log) (λ was. not_newest log (length log + 1) (begun_number log (length log + 1) was) refl)
    (begun_listed log)
begun_listed (r ∷ log) = begun_same r log (λ e. cc) (begun_listed log)

-- and is open
pub open_listed : (log : List Record) → Lists (IsLoser log (length log + 1)) (open_in log)
open_listed log =
    lists_same (λ t. HasBegun log t × (not (has_ended log t) ≡ true)) (IsLoser log (length log + 1))
    (λ t h. record {
      open_txn = record { begun = h.0; goes_on = not-true (has_ended log t) h.1 };
      early = omega (arith, (begun_number log t h.0).bounded);
    })
    (λ t h. (h.open_txn.begun, not_from_false (has_ended log t) h.open_txn.goes_on)) (open_in log)
    (passed_listed (HasBegun log) (λ t. not (has_ended log t)) (begun_in log) (begun_listed log))

-- the latest step

pub number_is : (o : Option ℕ) (t : ℕ) → is_number o t ≡ true → o ≡ Some t
number_is None t h = absurd (cc)
number_is (Some u) t h = ap Some (eqb-true u t h)

last_more : (r : Record) (log : List Record) (t : ℕ) (b : Bool) → is_number (step_of r) t ≡ b
    → IsLatestOrNone (IsStepOf log t) (last_in log t)
    → IsLatestOrNone (IsStepOf (r ∷ log) t) (if b then length log + 1 else last_in log t)
last_more r log t true own h = inl (record {
  is = at_newest (AStep t) r log (length log + 1) refl (number_is (step_of r) t own);
  greatest = λ m step. omega (arith, (step_number (r ∷ log) m t step).bounded);
})
last_more r log t false other h =
    let apart : AStep t (Some r) → ⊥ =
    λ own. true≢false (sym (ap (λ o. is_number o t) own ∙ eq-eqb t t refl) ∙ other) in
    latest_as (IsStepOf log t) (IsStepOf (r ∷ log) t) (steps_back r log t apart) (steps_there r log t apart)
    (last_in log t) h

last_found : (log : List Record) (t : ℕ) → IsLatestOrNone (IsStepOf log t) (last_in log t)
last_found [] t = inr (refl, λ m h. absurd (cc))
last_found (r ∷ log) t = last_more r log t (is_number (step_of r) t) refl (last_found log t)

-- what is left

module _ (log : List Record) (legal : IsLegal log) where
  left_found : (t : ℕ) → IsLatestOrNone (Stands log t) (loser_in log t).left
  left_found t = latest_found log t legal (last_in log t) (last_found log t)

  at_loser : (t : ℕ) → not (is_undone log t) ≡ true → IsAt log (loser_in log t)
  at_loser t some = record {
    last = last_found log t;
    left = latest_some (Stands log t) (loser_in log t).left
        (λ none. true≢false (sym (eq-eqb (loser_in log t).left 0 none) ∙ not-true (is_undone log t) some))
        (left_found t);
  }

  undone : (t : ℕ) → is_undone log t ≡ true → IsUndone log t
  undone t none n stands = elim (left_found t) [
    | inl latest ↦
        omega (
          arith,
          eqb-true (loser_in log t).left 0 none,
          (stands_number log t (loser_in log t).left latest.is).positive,
        )
    | inr nothing ↦ nothing.1 n stands
  ]

  numbers : (ts : List ℕ) → map (λ (x : Loser). x.txn) (map (loser_in log) ts) ≡ ts
  numbers [] = refl
  numbers (t ∷ ts) = ap (λ us. t ∷ us) (numbers ts)

  pub are_losers : AreLosers log (losers_of log)
  are_losers =
      let left : List ℕ = filter (λ t. not (is_undone log t)) (open_in log) in
      let done : List ℕ = filter (is_undone log) (open_in log) in
      record {
        bound = omega arith;
        listed = subst (λ ts. Lists (IsLoser log (length log + 1)) (ts ++ done)) (sym (numbers left))
            (both_listed (IsLoser log (length log + 1)) (is_undone log) (open_in log) (open_listed log));
        undoing = All-map (IsAt log) (loser_in log) left (All-weaker (λ t. not (is_undone log t) ≡ true)
            (λ t. IsAt log (loser_in log t)) at_loser left (filter_passes (λ t. not (is_undone log t)) (open_in log)));
        done = All-weaker (λ t. is_undone log t ≡ true) (IsUndone log) undone done
            (filter_passes (is_undone log) (open_in log));
      }
