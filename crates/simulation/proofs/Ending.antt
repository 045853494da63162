-- Commits, and rollbacks that end.
use Rattle.std.proofs.Common.{◌≡◌, ℕ, ◌+◌, ◌≤◌, true, false, ◌∷◌, length, Some, None, refl, ap, ◌∙◌, subst, arith, inl, inr}
use Rattle.std.specs.Prelude.{◌&&◌, not}
use Rattle.std.proofs.lemmas.Bool.{cases_eq, cases_Bool, le-ltb}
use Rattle.record_key.specs.declared.op.Op.{Op}
use Rattle.history.specs.declared.record.Record.TheVariants as is
use Rattle.history.specs.Log.{is_crossed, IsOpBy}
use Rattle.history.specs.Legal.{IsLegal, Stands}
use Rattle.history.specs.ListMachine.{Machine, Txn, Open, Committing, Gone, Commits, TellsRolledBack, TellsBack, with_txn, ended}
use Rattle.log_laws.proofs.Records.{record_new}
use Rattle.simulation.specs.View.{View, Ready, Rolls, counts, is_to_undo, HasSavesOf, HoldsAs, IsUntold, StandsFor}
use Rattle.simulation.specs.Running.{does, LeadsOn, after_commit, after_rollback, CommitIsAStep, RolledBackIsTold, BackIsTold}
use Rattle.simulation.proofs.Entries.{Agrees, Both, Neither, alike}
use Rattle.simulation.proofs.Crash.{crossed_out}
use Rattle.simulation.proofs.Told.{recorded_push}
use Rattle.simulation.proofs.Carrying.{Passes, passes, same_entries, txn_kept, one_changed, op_before, op_after, begun_so}
use Rattle.simulation.proofs.Doings.{put_same, put_other, open_as, rolling_as, carries_view}
use Rattle.simulation.proofs.Calling.{counts_same}
use Rattle.simulation.proofs.Undoing.{both_below}

-- a commit
module _ (v : View) (m : Machine) (t : ℕ) (legal : IsLegal (is.Commit t ∷ v.log)) (stands : StandsFor v m)
    (idle : v.doing t ≡ Some Ready) (within : v.stable ≤ length v.log) where
  abbrev commit_view : View
  commit_view = after_commit v t

  commit_agrees : (n u : ℕ) (q : Op) → IsOpBy v.log n u q
      → Agrees v.log (is.Commit t ∷ v.log) (counts v) (counts commit_view) n u q
  commit_agrees n u q by = grind arith

  commit_passes : (u : ℕ) → (u ≡ t → ⊥) → Passes v commit_view (is.Commit t) u
  commit_passes u apart = grind arith

  commits_so : LeadsOn v m (Commits t) (after_commit v t)
  commits_so =
      let at = open_as v m t stands idle in
      let x = stands.each t in
      let new : Txn = record (m.txns t) { status = Committing } in (
        with_txn m t new,
        (at.is_so, refl),
        record {
          entries = stands.entries
              ∙ alike v.log (is.Commit t ∷ v.log) (counts v) (counts commit_view) v.log commit_agrees;
          falling = stands.falling;
          recorded = recorded_push (is.Commit t) v.log m.h stands.recorded;
          each = one_changed m commit_view m.h t new
              (record {
                begun = begun_so (is.Commit t) v.log t (m.txns t).begun (λ e. cc) x.begun;
                status = (
                  record { does_none = put_same v.doing t None; loses_so = at.so.stays },
                  length v.log + 1,
                  record_new (is.Commit t) v.log,
                  omega (arith, within),
                );
                saves = tt;
                spans = subst (λ s. HoldsAs v t s (m.txns t).spans) at.is_so x.spans;
                unentered = tt;
                logged = λ n q last. op_after (is.Commit t) v.log t n q (x.logged n q last);
                entered = λ n q by. elim (x.entered n q (op_before (is.Commit t) v.log t n q (λ z e. cc) by))
                    [ inl a ↦ inl a | inr a ↦ absurd (subst IsUntold at.is_so a.1) ];
              })
              (λ u apart. txn_kept v commit_view u (passes v commit_view (is.Commit t) u (commit_passes u apart)) m.h
              m.h (same_entries v.log m.h u) (m.txns u) (stands.each u));
        },
      )

pub commit_is_a_step : CommitIsAStep
commit_is_a_step v m t legal stands idle within = commits_so v m t legal stands idle within

-- the end of a rollback
module _ (v : View) (m : Machine) (t b : ℕ) (legal : IsLegal (is.End t ∷ v.log)) (stands : StandsFor v m)
    (rolls : v.doing t ≡ Some (Rolls None b)) where
  abbrev end_view : View
  end_view = after_rollback v t

  end_agrees : (n u : ℕ) (q : Op) → IsOpBy v.log n u q
      → Agrees v.log (is.End t ∷ v.log) (counts v) (counts end_view) n u q
  end_agrees n u q by = elim (cases_eq u t) [
    | inr apart ↦ Both refl refl
        (λ a. counts_same v n u (is_crossed v.log n) (end_view.doing u) (put_other v.doing t None u apart))
    | inl e ↦
        let c : is_crossed v.log n ≡ true = elim (cases_Bool (is_crossed v.log n)) [
          | inl c ↦ c
          | inr c ↦ absurd (legal.0.undone n
              (record { op = q; is = subst (λ (k : ℕ). IsOpBy v.log n k q) e by; uncrossed = c }))
        ] in
        Neither (λ a. crossed_out false (is_crossed v.log n) (not (v.loses u) && not (is_to_undo (v.doing u) n)) c)
        (λ a. crossed_out false (is_crossed v.log n) (not (v.loses u) && not (is_to_undo (end_view.doing u) n)) c)
  ]

  end_passes : (u : ℕ) → (u ≡ t → ⊥) → Passes v end_view (is.End t) u
  end_passes u apart = grind arith

  ends_so : LeadsOn v m (TellsRolledBack t) (after_rollback v t)
  ends_so =
      let at = rolling_as v m t None b stands rolls in
      let x = stands.each t in
      let new : Txn = ended (m.txns t) Gone in (
        with_txn m t new,
        (at.is_so, refl),
        record {
          entries = stands.entries ∙ alike v.log (is.End t ∷ v.log) (counts v) (counts end_view) v.log end_agrees;
          falling = stands.falling;
          recorded = recorded_push (is.End t) v.log m.h stands.recorded;
          each = one_changed m end_view m.h t new
              (record {
                begun = begun_so (is.End t) v.log t (m.txns t).begun (λ e. cc) x.begun;
                status = (
                  record { does_none = put_same v.doing t None; loses_so = at.so.1.stays },
                  inl (length v.log + 1, record_new (is.End t) v.log),
                );
                saves = tt;
                spans = refl;
                unentered = tt;
                logged = λ n q last. op_after (is.End t) v.log t n q (x.logged n q last);
                entered = λ n q by. elim (x.entered n q (op_before (is.End t) v.log t n q (λ z e. cc) by))
                    [ inl a ↦ inl a | inr a ↦ inr (a.0, tt) ];
              })
              (λ u apart. txn_kept v end_view u (passes v end_view (is.End t) u (end_passes u apart)) m.h m.h
              (same_entries v.log m.h u) (m.txns u) (stands.each u));
        },
      )

pub rolled_back_is_told : RolledBackIsTold
rolled_back_is_told v m t b legal stands rolls = ends_so v m t b legal stands rolls

-- a rollback to a savepoint is done
module _ (v : View) (m : Machine) (t s b : ℕ) (stands : StandsFor v m) (rolls : v.doing t ≡ Some (Rolls (Some s) b))
    (done : (n : ℕ) → Stands v.log t n → n ≤ b) where
  abbrev back_view : View
  back_view = does v t (Some Ready)

  back_agrees : (n u : ℕ) (q : Op) → IsOpBy v.log n u q → Agrees v.log v.log (counts v) (counts back_view) n u q
  back_agrees n u q by = elim (cases_eq u t) [
    | inr apart ↦ Both refl refl
        (λ a. counts_same v n u (is_crossed v.log n) (back_view.doing u) (put_other v.doing t (Some Ready) u apart))
    | inl e ↦
        elim (cases_Bool (is_crossed v.log n)) [
          | inl c ↦
              Neither (λ a. crossed_out false (is_crossed v.log n) (not (v.loses u) && not (is_to_undo (v.doing u) n))
              c)
              (λ a. crossed_out false (is_crossed v.log n) (not (v.loses u) && not (is_to_undo (back_view.doing u) n))
              c)
          | inr c ↦
              let le : n ≤ b = done n (record {
                op = q;
                is = subst (λ (k : ℕ). IsOpBy v.log n k q) e by;
                uncrossed = c;
              }) in
              Both refl refl (λ a. both_below v n u (is_crossed v.log n) (v.doing u) (back_view.doing u)
              (ap (λ d. is_to_undo d n) (ap v.doing e ∙ rolls) ∙ le-ltb b n le)
              (ap (λ d. is_to_undo d n) (ap back_view.doing e ∙ put_same v.doing t (Some Ready))))
        ]
  ]

  back_so : LeadsOn v m (TellsBack t s) (does v t (Some Ready))
  back_so =
      let at = rolling_as v m t (Some s) b stands rolls in
      let x = stands.each t in
      let new : Txn = record (m.txns t) { status = Open } in (
        with_txn m t new,
        (at.is_so, refl),
        record {
          entries = stands.entries ∙ alike v.log v.log (counts v) (counts back_view) v.log back_agrees;
          falling = stands.falling;
          recorded = stands.recorded;
          each = one_changed m back_view m.h t new
              (record {
                begun = x.begun;
                status = record {
                  open_txn = at.so.1.open_txn;
                  does = put_same v.doing t (Some Ready);
                  stays = at.so.1.stays;
                };
                saves = subst (λ z. HasSavesOf v m.h t z (m.txns t).saves) at.is_so x.saves;
                spans = subst (λ z. HoldsAs v t z (m.txns t).spans) at.is_so x.spans;
                unentered = tt;
                logged = x.logged;
                entered = λ n q by. elim (x.entered n q by)
                    [ inl a ↦ inl a | inr a ↦ absurd (subst IsUntold at.is_so a.1) ];
              })
              (λ u apart. txn_kept v back_view u
              (carries_view v back_view.doing v.saves v.spans u (put_other v.doing t (Some Ready) u apart) refl
              refl)
              m.h m.h (same_entries v.log m.h u) (m.txns u) (stands.each u));
        },
      )

pub back_is_told : BackIsTold
back_is_told v m t s b stands rolls done = back_so v m t s b stands rolls done
