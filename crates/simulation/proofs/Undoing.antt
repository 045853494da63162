-- Rollbacks, and what they append.
use Rattle.std.proofs.Common.{arith, ◌≡◌, ℕ, Bool, true, false, cond, List, ◌∷◌, Option, Some, None, refl, sym, ap, ◌∙◌, subst, inl, inr, ◌⊎◌, eq-eqb, ne_eqb}
use Rattle.std.specs.Prelude.{◌==◌, ◌&&◌, ◌||◌, not, map, filter}
use Rattle.std.proofs.lemmas.Bool.{cases_eq, lt-ltb, or_left}
use Rattle.record_key.specs.declared.op.Op.{Op}
use Rattle.record_key.specs.declared.op.Answer.{Answer}
use Rattle.history.specs.declared.record.Record.{Record}
use Rattle.history.specs.declared.record.Record.TheVariants as is
use Rattle.history.specs.History.{Entry}
use Rattle.history.specs.Log.{record_at, answer_of, is_crossed, IsOpBy, hist}
use Rattle.history.specs.Legal.{IsLegal}
use Rattle.history.specs.ListMachine.{Machine, Txn, Rolling, Losing, RollsBack, with_txn}
use Rattle.log_laws.proofs.Records.{op_same}
use Rattle.log_laws.proofs.LegalLogs.{op_number}
use Rattle.simulation.specs.View.{View, Doing, Ready, Awaits, Rolls, counts, is_to_undo, HasStatusOf, HoldsAs, IsUntold, IsRecorded, StandsFor}
use Rattle.simulation.specs.Running.{does, LeadsOn, RollbackIsAStep, CompIsNoStep, UndoneIsNoStep}
use Rattle.simulation.proofs.Entries.{as_entry, Agrees, Both, Neither, alike, filter_twice, marked, uncross_marked, marked_all, marked_falling, marked_entry, marked_over}
use Rattle.simulation.proofs.Crash.{loses_out}
use Rattle.simulation.proofs.Told.{losing_is, recorded_push}
use Rattle.simulation.proofs.Carrying.{CarriesEntries, Passes, passes, same_entries, txn_kept, one_changed}
use Rattle.simulation.proofs.Doings.{put_same, put_other, open_as, carries_view}
use Rattle.simulation.proofs.Calling.{counts_same}

-- what lies above a bound doesn't count
above_out : (c l a : Bool) → a ≡ true → (not c && (not l && not a)) ≡ false
above_out true l a e = refl
above_out false true a e = refl
above_out false false a e = ap not e

-- where both of two doings leave an entry, it counts the same
pub both_below : (v : View) (n u : ℕ) (c : Bool) (x y : Option Doing) → is_to_undo x n ≡ false → is_to_undo y n ≡ false
    → (not c && (not (v.loses u) && not (is_to_undo x n))) ≡ (not c && (not (v.loses u) && not (is_to_undo y n)))
both_below v n u c x y a b = ap (λ z. not c && (not (v.loses u) && not z)) (a ∙ sym b)

-- crossing carries entries
pub marked_entries : (log : List Record) (f : ℕ → ℕ → Bool) (h : List Entry) (u : ℕ)
    → CarriesEntries log h (map (marked f) h) u
marked_entries log f h u = grind (arith, marked_entry, marked_all, marked_over)

-- a rollback
module _ (v : View) (m : Machine) (t : ℕ) (stands : StandsFor v m) (idle : v.doing t ≡ Some Ready) where
  abbrev roll_view : View
  roll_view = does v t (Some (Rolls None 0))

  abbrev crossing : ℕ → ℕ → Bool
  crossing u n = (u == t) && true

  roll_agrees : (n u : ℕ) (q : Op) → IsOpBy v.log n u q
      → Agrees v.log v.log (λ e. not (crossing e.txn e.number) && counts v e) (counts roll_view) n u q
  roll_agrees n u q by = elim (cases_eq u t) [
    | inr apart ↦ Both refl refl (λ a.
        ap (λ (b : Bool). not (b && true) && counts v (as_entry v.log n u q a)) (ne_eqb u t apart)
        ∙ counts_same v n u (is_crossed v.log n) (roll_view.doing u)
        (put_other v.doing t (Some (Rolls None 0)) u apart))
    | inl e ↦ Neither
        (λ a. ap (λ (b : Bool). not (b && true) && counts v (as_entry v.log n u q a)) (eq-eqb u t e))
        (λ a. above_out (is_crossed v.log n) (v.loses u) (is_to_undo (roll_view.doing u) n)
        (ap (λ d. is_to_undo d n) (ap roll_view.doing e ∙ put_same v.doing t (Some (Rolls None 0)))
        ∙ lt-ltb 0 n (op_number v.log n u q by).positive))
  ]

  rolls_so : LeadsOn v m (RollsBack t) (does v t (Some (Rolls None 0)))
  rolls_so =
      let at = open_as v m t stands idle in
      let x = stands.each t in
      let new : Txn = record (m.txns t) { status = Rolling None } in
      let h : List Entry = map (marked crossing) m.h in (
        record (with_txn m t new) { h = map (marked crossing) m.h },
        (at.is_so, refl),
        record {
          entries = uncross_marked crossing m.h ∙ ap (filter (λ e. not (crossing e.txn e.number))) stands.entries
              ∙ filter_twice (λ e. not (crossing e.txn e.number)) (counts v) (hist v.log)
              ∙ alike v.log v.log (λ e. not (crossing e.txn e.number) && counts v e) (counts roll_view) v.log
              roll_agrees;
          falling = marked_falling crossing m.h stands.falling;
          recorded = marked_all (IsRecorded v.log) (IsRecorded v.log) crossing m.h
              (λ e r. record { is = r.is; lost = λ none. or_left e.crossed _ (r.lost none) }) stands.recorded;
          each = one_changed m roll_view h t new
              (record {
                begun = x.begun;
                status = (
                  0,
                  record {
                    open_txn = at.so.open_txn;
                    does = put_same v.doing t (Some (Rolls None 0));
                    stays = at.so.stays;
                  },
                );
                saves = tt;
                spans = subst (λ s. HoldsAs v t s (m.txns t).spans) at.is_so x.spans;
                unentered = tt;
                logged = x.logged;
                entered = λ n q by. elim (x.entered n q by)
                    [ inl a ↦ inl (marked_entry crossing m.h n t q a) | inr a ↦ absurd (subst IsUntold at.is_so a.1) ];
              })
              (λ u apart. txn_kept v roll_view u
              (carries_view v roll_view.doing v.saves v.spans u (put_other v.doing t (Some (Rolls None 0)) u apart)
              refl refl)
              m.h h (marked_entries v.log crossing m.h u) (m.txns u) (stands.each u));
        },
      )

pub rollback_is_a_step : RollbackIsAStep
rollback_is_a_step v m t stands idle = rolls_so v m t stands idle

-- a compensation
module _ (v : View) (m : Machine) (t u x : ℕ) (i : Option Op) (legal : IsLegal (is.Comp t u x i ∷ v.log))
    (stands : StandsFor v m)
    (undone : (v.loses t ≡ true) ⊎ (is_to_undo (v.doing t) u ≡ true))
  where
    abbrev comp_view : View
    comp_view = record v { log = is.Comp t u x i ∷ v.log }

    undone_out : (c : Bool) → (not c && (not (v.loses t) && not (is_to_undo (v.doing t) u))) ≡ false
    undone_out c = elim undone [
      | inl l ↦ loses_out false c (v.loses t) (not (is_to_undo (v.doing t) u)) l
      | inr a ↦ above_out c (v.loses t) (is_to_undo (v.doing t) u) a
    ]

    comp_agrees : (n w : ℕ) (q : Op) → IsOpBy v.log n w q
        → Agrees v.log (is.Comp t u x i ∷ v.log) (counts v) (counts comp_view) n w q
    comp_agrees n w q by = elim (cases_eq n u) [
      | inr apart ↦
          let same : is_crossed v.log n ≡ ((n == u) || is_crossed v.log n) =
          sym (ap (λ (b : Bool). b || is_crossed v.log n) (ne_eqb n u apart)) in
          Both refl same (λ a. ap (λ (c : Bool). not c && (not (v.loses w) && not (is_to_undo (v.doing w) n))) same)
      | inl e ↦
          let latest = legal.0.latest.is in
          let own : w ≡ t = (op_same w t q latest.op (record_at v.log u) (subst (λ (k : ℕ). IsOpBy v.log k w q) e by)
          latest.is).0 in
          let out : (c : Bool) → (not c && (not (v.loses w) && not (is_to_undo (v.doing w) n))) ≡ false =
          λ c. (λ j. not c && (not (v.loses (own j)) && not (is_to_undo (v.doing (own j)) (e j)))) ∙ undone_out c in
          Neither (λ a. out (is_crossed v.log n)) (λ a. out ((n == u) || is_crossed v.log n))
    ]

    comp_passes : (w : ℕ) → Passes v comp_view (is.Comp t u x i) w
    comp_passes w = record {
      log = refl;
      stable = refl;
      loses = refl;
      doing = refl;
      saves = refl;
      spans = refl;
      no_op = λ q e. cc;
      no_end = refl;
      no_begin = λ at e. cc;
      waits = λ n q by d none. none;
    }

    comp_so : StandsFor (record v { log = is.Comp t u x i ∷ v.log }) m
    comp_so = record {
      entries = stands.entries ∙ alike v.log (is.Comp t u x i ∷ v.log) (counts v) (counts comp_view) v.log comp_agrees;
      falling = stands.falling;
      recorded = recorded_push (is.Comp t u x i) v.log m.h stands.recorded;
      each = λ w. txn_kept v comp_view w (passes v comp_view (is.Comp t u x i) w (comp_passes w)) m.h m.h
          (same_entries v.log m.h w) (m.txns w) (stands.each w);
    }

pub comp_is_no_step : CompIsNoStep
comp_is_no_step v m t u x i legal stands undone = comp_so v m t u x i legal stands undone

-- an answer that no client waits for
module _ (v : View) (m : Machine) (n : ℕ) (a : Answer) (legal : IsLegal (is.Answer n a ∷ v.log))
    (stands : StandsFor v m)
    (unasked : (t : ℕ) (o : Op) → IsOpBy v.log n t o → v.loses t ≡ true)
  where
    abbrev undone_view : View
    undone_view = record v { log = is.Answer n a ∷ v.log }

    other_answer : (k : ℕ) → (k ≡ n → ⊥) → answer_of (is.Answer n a ∷ v.log) k ≡ answer_of v.log k
    other_answer k apart = ap (λ (b : Bool). cond b (Some a) (answer_of v.log k)) (ne_eqb k n apart)

    undone_agrees : (k w : ℕ) (q : Op) → IsOpBy v.log k w q
        → Agrees v.log (is.Answer n a ∷ v.log) (counts v) (counts undone_view) k w q
    undone_agrees k w q by = elim (cases_eq k n) [
      | inr apart ↦ Both (sym (other_answer k apart)) refl (λ b. refl)
      | inl e ↦
          let l : v.loses w ≡ true = unasked w q (subst (λ (z : ℕ). IsOpBy v.log z w q) e by) in
          Neither (λ b. loses_out false (is_crossed v.log k) (v.loses w) (not (is_to_undo (v.doing w) k)) l)
          (λ b. loses_out false (is_crossed v.log k) (v.loses w) (not (is_to_undo (v.doing w) k)) l)
    ]

    not_awaited : (w k : ℕ) (q : Op) → IsOpBy v.log k w q → v.doing w ≡ Some (Awaits k) → k ≡ n → ⊥
    not_awaited w k q by does e =
        let l : v.loses w ≡ true = unasked w q (subst (λ (z : ℕ). IsOpBy v.log z w q) e by) in
        let so : HasStatusOf v w Losing =
        subst (HasStatusOf v w) (losing_is v w (m.txns w).status (stands.each w).status l) (stands.each w).status in
        let both : Some (Awaits k) ≡ None = sym does ∙ so.quiet.does_none in
        cc

    undone_passes : (w : ℕ) → Passes v undone_view (is.Answer n a) w
    undone_passes w = record {
      log = refl;
      stable = refl;
      loses = refl;
      doing = refl;
      saves = refl;
      spans = refl;
      no_op = λ q e. cc;
      no_end = refl;
      no_begin = λ at e. cc;
      waits = λ k q by d none. other_answer k (not_awaited w k q by d) ∙ none;
    }

    undone_so : StandsFor (record v { log = is.Answer n a ∷ v.log }) m
    undone_so = record {
      entries = stands.entries
          ∙ alike v.log (is.Answer n a ∷ v.log) (counts v) (counts undone_view) v.log undone_agrees;
      falling = stands.falling;
      recorded = recorded_push (is.Answer n a) v.log m.h stands.recorded;
      each = λ w. txn_kept v undone_view w (passes v undone_view (is.Answer n a) w (undone_passes w)) m.h m.h
          (same_entries v.log m.h w) (m.txns w) (stands.each w);
    }

pub undone_is_no_step : UndoneIsNoStep
undone_is_no_step v m n a legal stands unasked = undone_so v m n a legal stands unasked
