-- What the component keeps of transactions that are over says nothing.
use Rattle.std.proofs.Common.{◌≡◌, ℕ, arith, Some, None, Bool, true, false, List, [], refl, sym, ap, ◌∙◌, subst, inl, inr, ◌⊎◌}
use Rattle.std.proofs.lemmas.Bool.{cases_eq}
use Rattle.history.specs.declared.record.Record.{Record}
use Rattle.history.specs.declared.record.Record.TheVariants as is
use Rattle.history.specs.Spans.{Span}
use Rattle.history.specs.Log.{record_at}
use Rattle.history.specs.Legal.{IsLegal}
use Rattle.history.specs.ListMachine.{Machine, Status, Open, Waiting, Reading, Rolling, Committing, Committed, Losing, Gone}
use Rattle.log_laws.proofs.Strict.{end_number, end_ends}
use Rattle.log_laws.proofs.Named.{ended_begun}
use Rattle.simulation.specs.View.{View, Doing, HasStatusOf, HasSaves, HasSavesOf, HoldsAs, AreSpans, IsActive, IsQuiet, IsCommitAt, IsOver, IsTxnOf, opened, StandsFor}
use Rattle.simulation.specs.Running.{put}
use Rattle.simulation.specs.Views.{IsUncommitting, LeftoversAreNoStep, LetGoIsNoStep, RebuiltSpansAreNoStep}
use Rattle.simulation.proofs.Beginnings.{one_end}
use Rattle.simulation.proofs.Doings.{put_other, not_active}

-- whose End stands, or whose Begin doesn't, has no Commit
over_uncommitted : (log : List Record) (t n : ℕ) → IsLegal log → IsOver log t → IsCommitAt log t n → ⊥
over_uncommitted log t n legal (inl end) at =
    let same : n ≡ end.0 = one_end log t n end.0 legal (inl at) (inr end.1) in
    let both : Some (is.Commit t) ≡ Some (is.End t) = sym at ∙ ap (record_at log) same ∙ end.1 in
    cc
over_uncommitted log t n legal (inr none) at = none (ended_begun log t legal (end_ends log t n (inl at)))

pub over_uncommitting : (v : View) (t : ℕ) → IsLegal v.log → IsOver v.log t → IsUncommitting v t
over_uncommitting v t legal over n at = absurd (over_uncommitted v.log t n legal over at)

-- no Commit of one that is committed or gone waits for a force
pub uncommitting : (v : View) (t : ℕ) (s : Status) → IsLegal v.log → HasStatusOf v t s → (s ≡ Committed) ⊎ (s ≡ Gone)
    → IsUncommitting v t
uncommitting v t s legal so (inl e) n at =
    let c : HasStatusOf v t Committed = subst (HasStatusOf v t) e so in
    omega (arith, c.3, one_end v.log t n c.1 legal (inl at) (inl c.2))
uncommitting v t s legal so (inr e) n at =
    let g : HasStatusOf v t Gone = subst (HasStatusOf v t) e so in
    over_uncommitting v t legal g.1 n at

-- other savepoints and spans
module _ (v : View) (m : Machine) (saves : ℕ → List ℕ) (spans : ℕ → List Span) (stands : StandsFor v m) where
  abbrev other : View
  other = record v { saves = saves; spans = spans }

  module _ (t : ℕ) (same_saves : (saves t ≡ v.saves t) ⊎ (v.doing t ≡ None))
      (same_spans : (spans t ≡ v.spans t) ⊎ ((v.doing t ≡ None) × IsUncommitting v t))
    where
      active : (d : Doing) → IsActive v t d → IsActive other t d
      active d so = record { open_txn = so.open_txn; does = so.does; stays = so.stays }

      quiet : (b : Bool) → IsQuiet v t b → IsQuiet other t b
      quiet b so = record { does_none = so.does_none; loses_so = so.loses_so }

      status_left : (s : Status) → HasStatusOf v t s → HasStatusOf other t s
      status_left Open so = active _ so
      status_left (Waiting n o) so = (active _ so.0, so.1, so.2)
      status_left (Reading q) so = active _ so
      status_left (Rolling p) so = (so.0, active _ so.1)
      status_left Committing so = (quiet false so.0, so.1, so.2, so.3)
      status_left Committed so = (quiet false so.0, so.1, so.2, so.3)
      status_left Losing so = record {
        quiet = quiet true so.quiet;
        open_txn = so.open_txn;
        stable = so.stable;
        found = so.found;
      }
      status_left Gone so = (quiet false so.0, so.1)

      -- an open one has the same, and a committing one the same spans
      own_saves : (d : Doing) → IsActive v t d → v.saves t ≡ saves t
      own_saves d so = elim same_saves [ inl e ↦ sym e | inr none ↦ absurd (not_active v t d none so.does) ]

      own_spans : (d : Doing) → IsActive v t d → v.spans t ≡ spans t
      own_spans d so = elim same_spans [ inl e ↦ sym e | inr none ↦ absurd (not_active v t d none.0 so.does) ]

      waiting_spans : HasStatusOf v t Committing → v.spans t ≡ spans t
      waiting_spans so = elim same_spans [ inl e ↦ sym e | inr over ↦ absurd (omega (arith, over.1 so.1 so.2, so.3)) ]

      saves_left : (s : Status) (xs : List (List ℕ)) → HasStatusOf v t s → HasSavesOf v m.h t s xs
          → HasSavesOf other m.h t s xs
      saves_left Open xs so has = subst (HasSaves m.h t _ xs) (own_saves _ so) has
      saves_left (Waiting n o) xs so has = subst (HasSaves m.h t _ xs) (own_saves _ so.0) has
      saves_left (Reading q) xs so has = subst (HasSaves m.h t _ xs) (own_saves _ so) has
      saves_left (Rolling None) xs so has = tt
      saves_left (Rolling (Some p)) xs so has = subst (HasSaves m.h t _ xs) (own_saves _ so.1) has
      saves_left Committing xs so has = tt
      saves_left Committed xs so has = tt
      saves_left Losing xs so has = tt
      saves_left Gone xs so has = tt

      spans_left : (s : Status) (xs : List Span) → HasStatusOf v t s → HoldsAs v t s xs → HoldsAs other t s xs
      spans_left Open xs so holds = subst (AreSpans xs) (own_spans _ so) holds
      spans_left (Waiting n o) xs so holds = subst (AreSpans xs) (own_spans _ so.0) holds
      spans_left (Reading q) xs so holds = subst (AreSpans xs) (own_spans _ so) holds
      spans_left (Rolling p) xs so holds = subst (AreSpans xs) (own_spans _ so.1) holds
      spans_left Committing xs so holds = subst (AreSpans xs) (waiting_spans so) holds
      spans_left Committed xs so holds = holds
      spans_left Losing xs so holds = holds
      spans_left Gone xs so holds = holds

      txn_left : IsTxnOf other m.h t (m.txns t)
      txn_left =
          let x = stands.each t in
          record {
            begun = x.begun;
            status = status_left (m.txns t).status x.status;
            saves = saves_left (m.txns t).status (m.txns t).saves x.status x.saves;
            spans = spans_left (m.txns t).status (m.txns t).spans x.status x.spans;
            unentered = x.unentered;
            logged = x.logged;
            entered = x.entered;
          }

  pub left_over : ((t : ℕ) → (saves t ≡ v.saves t) ⊎ (v.doing t ≡ None))
      → ((t : ℕ) → (spans t ≡ v.spans t) ⊎ ((v.doing t ≡ None) × IsUncommitting v t))
      → StandsFor (record v { saves = saves; spans = spans }) m
  left_over same_saves same_spans = record {
    entries = stands.entries;
    falling = stands.falling;
    recorded = stands.recorded;
    each = λ t. txn_left t (same_saves t) (same_spans t);
  }

pub leftovers_are_no_step : LeftoversAreNoStep
leftovers_are_no_step v m saves spans stands same_saves same_spans =
    left_over v m saves spans stands same_saves same_spans

pub let_go_is_no_step : LetGoIsNoStep
let_go_is_no_step v m t stands none told =
    left_over v m v.saves (put v.spans t []) stands (λ u. inl refl) (λ u. elim (cases_eq u t) [
      | inl e ↦ inr (ap v.doing e ∙ none, λ n at. told n (subst (λ (k : ℕ). IsCommitAt v.log k n) e at))
      | inr apart ↦ inl (put_other v.spans t [] u apart)
    ])

pub rebuilt_spans_are_no_step : RebuiltSpansAreNoStep
rebuilt_spans_are_no_step log m spans stands =
    left_over (opened log) m (opened log).saves spans stands (λ t. inl refl)
    (λ t. inr (refl, λ n at. (end_number log t n (inl at)).bounded))
