-- Whoever isn't gone has begun, and who has committed.
use Rattle.std.proofs.Common.{◌≡◌, ◌≢◌, ℕ, ◌≤◌, Bool, true, List, [], ◌∷◌, Some, refl, sym, ap, ◌∙◌, subst, arith, inl, inr, ◌⊎◌, true≢false}
use Rattle.std.specs.Prelude.{◌==◌, ◌&&◌, filter, not}
use Rattle.history.specs.declared.record.Record.TheVariants as is
use Rattle.history.specs.History.{Entry, entries_of}
use Rattle.history.specs.Log.{record_at, has_ended, hist}
use Rattle.history.specs.Legal.{IsLegal}
use Rattle.history.specs.ListMachine.{Machine, Txn, Status, Open, Waiting, Reading, Rolling, Committing, Committed, Losing, Gone, Line, HasStatus, Falls, Survives, Step, Steps, fresh, with_txn, ended}
use Rattle.log_laws.proofs.Strict.{end_ends}
use Rattle.log_laws.proofs.Named.{ended_begun}
use Rattle.simulation.specs.View.{View, HasStatusOf, IsCommitAt, counts, standing, StandsFor}
use Rattle.simulation.specs.Lasting.{IsBegunOrGone, EachHasBegun, RunsHaveBegun, StoodForHaveBegun, ToldIsCommitted, StableIsCommitted}
use Rattle.simulation.proofs.Beginnings.{one_end}
use Rattle.simulation.proofs.Entries.{filter_twice}

-- one transaction is changed
begun_with : (m n : Machine) (u : ℕ) (x : Txn) (g : List Entry) → EachHasBegun m → IsBegunOrGone x
    → n ≡ record (with_txn m u x) { h = g }
    → EachHasBegun n
begun_with m n u x g each new h = grind arith

had_begun : (m : Machine) (u : ℕ) (s : Status) → EachHasBegun m → HasStatus m u s → s ≢ Gone → (m.txns u).begun ≡ true
had_begun m u s each at here = elim (each u) [ inl b ↦ b | inr g ↦ absurd (here (sym at ∙ g)) ]

falls_begun : (m : Machine) (bound t : ℕ) (new : Txn) → Falls m bound t new → IsBegunOrGone new
falls_begun m bound t new h = grind arith

survives_begun : (m : Machine) (bound t : ℕ) (s : Status) (new : Txn) (fell : Bool) → HasStatus m t s → EachHasBegun m
    → Survives m bound t s new fell → IsBegunOrGone new
survives_begun m bound t s new fell at each h = grind arith

begun_step : (m n : Machine) (line : Line) → Step m line n → EachHasBegun m → EachHasBegun n
begun_step m n line h each = grind arith

begun_steps : (m n : Machine) (lines : List Line) → Steps m lines n → EachHasBegun m → EachHasBegun n
begun_steps m n [] steps each = subst EachHasBegun (sym steps) each
begun_steps m n (line ∷ lines) steps each = begun_steps steps.0 n lines steps.2 (begun_step m steps.0 line steps.1 each)

pub runs_have_begun : RunsHaveBegun
runs_have_begun m lines steps = begun_steps fresh m lines steps (λ t. inr refl)

-- the Begin stands of whoever isn't gone
begins_or_gone : (v : View) (t : ℕ) (s : Status) → IsLegal v.log → HasStatusOf v t s
    → (record_at v.log t ≡ Some is.Begin) ⊎ (s ≡ Gone)
begins_or_gone v t s legal so = grind (arith, ended_begun, end_ends)

pub stood_for_have_begun : StoodForHaveBegun
stood_for_have_begun v m legal stands t = grind (arith, begins_or_gone)

-- told so
pub told_is_committed : ToldIsCommitted
told_is_committed m n t each h = grind arith

-- by its log
committed_is : (v : View) (t k : ℕ) (s : Status) → IsLegal v.log → IsCommitAt v.log t k → k ≤ v.stable
    → HasStatusOf v t s → s ≡ Committed
committed_is v t k s legal at stable so = by s so (end_ends v.log t k (inl at))
  where
    by : (s : Status) → HasStatusOf v t s → has_ended v.log t ≡ true → s ≡ Committed
    by Open so ended = absurd (true≢false (sym ended ∙ so.open_txn.goes_on))
    by (Waiting n o) so ended = absurd (true≢false (sym ended ∙ so.0.open_txn.goes_on))
    by (Reading r) so ended = absurd (true≢false (sym ended ∙ so.open_txn.goes_on))
    by (Rolling p) so ended = absurd (true≢false (sym ended ∙ so.1.open_txn.goes_on))
    by Committing so ended = absurd (omega (arith, so.3, stable, one_end v.log t so.1 k legal (inl so.2) (inl at)))
    by Committed so ended = refl
    by Losing so ended = absurd (true≢false (sym ended ∙ so.open_txn.goes_on))
    by Gone so ended = elim so.1 [
      | inl e ↦
          let same : e.0 ≡ k = one_end v.log t e.0 k legal (inr e.1) (inl at) in
          let both : Some (is.End t) ≡ Some (is.Commit t) = sym e.1 ∙ ap (record_at v.log) same ∙ at in
          absurd (cc)
      | inr none ↦ absurd (none (ended_begun v.log t legal ended))
    ]

-- two filters in either order
both_ways : (a b : Bool) → (a && b) ≡ (b && a)
both_ways a b = grind arith

filter_both : (p q : Entry → Bool) (h : List Entry) → filter p (filter q h) ≡ filter q (filter p h)
filter_both p q h =
    filter_twice p q h ∙ ap (λ r. filter r h) (λ j e. both_ways (p e) (q e) j) ∙ sym (filter_twice q p h)

-- of whoever neither loses nor rolls back the entries count that stand
counts_own : (v : View) (t : ℕ) (e : Entry) → HasStatusOf v t Committed
    → ((e.txn == t) && counts v e) ≡ ((e.txn == t) && not e.crossed)
counts_own v t e so = grind arith

own_stand : (v : View) (m : Machine) (t : ℕ) → StandsFor v m → HasStatusOf v t Committed
    → standing (entries_of t m.h) ≡ standing (entries_of t (hist v.log))
own_stand v m t stands so =
    filter_both (λ e. not e.crossed) (λ e. e.txn == t) m.h
    ∙ ap (entries_of t) stands.entries
    ∙ filter_twice (λ e. e.txn == t) (counts v) (hist v.log)
    ∙ ap (λ r. filter r (hist v.log)) (λ j e. counts_own v t e so j)
    ∙ sym (filter_twice (λ e. e.txn == t) (λ e. not e.crossed) (hist v.log))
    ∙ filter_both (λ e. e.txn == t) (λ e. not e.crossed) (hist v.log)

pub stable_is_committed : StableIsCommitted
stable_is_committed v m t k legal stands at stable =
    let status : HasStatus m t Committed =
    committed_is v t k (m.txns t).status legal at stable (stands.each t).status in
    let so : HasStatusOf v t Committed = subst (HasStatusOf v t) status (stands.each t).status in (
      record {
        begun = had_begun m t Committed (stood_for_have_begun v m legal stands) status (λ e. cc);
        status = status;
        own_is = refl;
      },
      own_stand v m t stands so,
    )
