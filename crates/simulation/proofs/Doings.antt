-- What an open transaction does tells its status.
use Rattle.std.proofs.Common.{◌≡◌, ℕ, ◌+◌, ◌<◌, Bool, List, [], ◌∷◌, length, Option, Some, None, refl, sym, ap, ◌∙◌, subst, arith, inl, inr, eq-eqb, ne_eqb}
use Rattle.std.specs.Prelude.{if◌then◌else◌}
use Rattle.std.specs.List.{AllByRecursion}
use Rattle.std.proofs.lemmas.Bool.{cases_lt}
use Rattle.record_key.specs.declared.op.Op.{Op}
use Rattle.history.specs.History.{Entry}
use Rattle.history.specs.Spans.{Span}
use Rattle.history.specs.ListMachine.{Machine, Status, Open, Waiting, Reading, Rolling}
use Rattle.log_laws.proofs.LegalLogs.{op_number}
use Rattle.simulation.specs.View.{View, Doing, Ready, Awaits, Looks, Rolls, HasStatusOf, IsRecorded, StandsFor}
use Rattle.simulation.specs.Running.{put}
use Rattle.simulation.proofs.Carrying.{Carries}

pub put_same : {A : Type 0} (f : ℕ → A) (t : ℕ) (x : A) → put f t x t ≡ x
put_same f t x = ap (λ (b : Bool). if b then x else f t) (eq-eqb t t refl)

pub put_other : {A : Type 0} (f : ℕ → A) (t : ℕ) (x : A) (u : ℕ) → (u ≡ t → ⊥) → put f t x u ≡ f u
put_other f t x u apart = ap (λ (b : Bool). if b then x else f u) (ne_eqb u t apart)

-- the status of one that does this
abbrev pub IsStatusFor : Option Doing → Status → Type 0
IsStatusFor None s = Unit {0}
IsStatusFor (Some Ready) s = s ≡ Open
IsStatusFor (Some (Awaits n)) s = (o : Op) × (s ≡ Waiting n o)
IsStatusFor (Some (Looks q)) s = s ≡ Reading q
IsStatusFor (Some (Rolls p b)) s = s ≡ Rolling p

by_doing : (v : View) (t : ℕ) (s : Status) → HasStatusOf v t s → IsStatusFor (v.doing t) s
by_doing v t s so = grind arith

pub status_for : (v : View) (m : Machine) (t : ℕ) (d : Doing) → StandsFor v m → v.doing t ≡ Some d
    → IsStatusFor (Some d) (m.txns t).status
status_for v m t d stands at =
    subst (λ x. IsStatusFor x (m.txns t).status) at (by_doing v t (m.txns t).status (stands.each t).status)

-- the transaction as one of its status
pub record IsAs (v : View) (m : Machine) (t : ℕ) (s : Status) : Type 0 where
  pub is_so : (m.txns t).status ≡ s
  pub so : HasStatusOf v t s

pub open_as : (v : View) (m : Machine) (t : ℕ) → StandsFor v m → v.doing t ≡ Some Ready → IsAs v m t Open
open_as v m t stands at =
    let e : (m.txns t).status ≡ Open = status_for v m t Ready stands at in
    record { is_so = e; so = subst (HasStatusOf v t) e (stands.each t).status }

pub rolling_as : (v : View) (m : Machine) (t : ℕ) (p : Option ℕ) (b : ℕ) → StandsFor v m → v.doing t ≡ Some (Rolls p b)
    → IsAs v m t (Rolling p)
rolling_as v m t p b stands at =
    let e : (m.txns t).status ≡ Rolling p = status_for v m t (Rolls p b) stands at in
    record { is_so = e; so = subst (HasStatusOf v t) e (stands.each t).status }

-- who does nothing doesn't do this
pub not_active : (v : View) (t : ℕ) (d : Doing) → v.doing t ≡ None → v.doing t ≡ Some d → ⊥
not_active v t d none some = let both : None ≡ Some d = sym none ∙ some in cc

-- entries are of the log's numbers
pub numbers_below : (v : View) (h : List Entry) → AllByRecursion (IsRecorded v.log) h
    → AllByRecursion (λ e. e.number < length v.log + 1) h
numbers_below v [] all = tt
numbers_below v (e ∷ h) all = (
  elim (cases_lt 0 e.number) [
    | inl some ↦ let bounded = (op_number v.log e.number e.txn e.op (all.0.is some)).bounded in omega (arith, bounded)
    | inr none ↦ omega (arith, none)
  ],
  numbers_below v h all.1,
)

-- a change that leaves the log leaves a transaction of which it leaves what the component has
pub carries_view : (v : View) (d : ℕ → Option Doing) (saves : ℕ → List ℕ) (spans : ℕ → List Span) (u : ℕ)
    → d u ≡ v.doing u → saves u ≡ v.saves u → spans u ≡ v.spans u
    → Carries v (record v { doing = d; saves = saves; spans = spans }) u
carries_view v d saves spans u same_doing same_saves same_spans = record {
  loses = refl;
  doing = same_doing;
  saves = same_saves;
  spans = same_spans;
  longer = omega arith;
  goes_on = λ h. h;
  op_kept = λ n o by. by;
  op_had = λ n o by. by;
  waits = λ n o by at h. h;
  commit = λ n at. at;
  stable = omega arith;
  unstable = λ n at lt. lt;
  end = λ n at. at;
  begun = (λ at. at, λ at. at);
}
