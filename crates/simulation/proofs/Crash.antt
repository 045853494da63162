-- A crash that leaves a beginning of the log is a crash of the list machine.
use Rattle.std.proofs.Common.{◌≡◌, ℕ, ◌≤◌, Bool, true, false, List, ◌++◌, length, Option, Some, None, refl, sym, ap, ◌∙◌, subst, arith, inl, inr}
use Rattle.std.specs.Prelude.{map, filter, nat_lt, not, ◌&&◌}
use Rattle.std.proofs.lemmas.Bool.{cases_Bool, lt-ltb, le-ltb, or_left}
use Rattle.record_key.specs.declared.op.Op.{Op}
use Rattle.record_key.specs.declared.op.Answer.{Answer}
use Rattle.history.specs.declared.record.Record.{Record}
use Rattle.history.specs.History.{Entry}
use Rattle.history.specs.Log.{record_at, is_crossed, has_ended, IsOpen, IsOpBy, hist}
use Rattle.history.specs.Legal.{IsLegal}
use Rattle.history.specs.ListMachine.{Machine, Status, Open, Waiting, Reading, Rolling, Committing, Committed, Losing, Gone, Crashes, Step, fallen}
use Rattle.log_laws.proofs.Records.{op_step}
use Rattle.log_laws.proofs.LegalLogs.{legal_end, begun, op_number}
use Rattle.simulation.specs.View.{View, Doing, Awaits, IsUnentered, counts, is_to_undo, standing, is_left_open, opened, HasStatusOf, HasSavesOf, HoldsAs, IsUntold, IsRecorded, IsTxnOf, StandsFor}
use Rattle.simulation.specs.Laws.{CrashIsAStep}
use Rattle.simulation.proofs.Beginnings.{settled_op, left_open, left_ended, op_longer, op_shorter}
use Rattle.simulation.proofs.Survival.{Survival, survival, with_log}
use Rattle.simulation.proofs.Entries.{as_entry, Agrees, Both, Neither, alike, drop_over, filter_twice, uncross_fallen, fallen_all, fallen_falling, fallen_entry}

-- nobody is open, so nobody has savepoints
saves_opened : (older : List Record) (h : List Entry) (t : ℕ) (s : Status) (saves : List (List ℕ))
    → HasStatusOf (opened older) t s → HasSavesOf (opened older) h t s saves
saves_opened older h t Open saves so = absurd (none so.does)
  where
    none : {d : Doing} → ◌≡◌ {A = Option Doing} None (Some d) → ⊥
    none e = cc
saves_opened older h t (Waiting n o) saves so = absurd (none so.0.does)
  where
    none : {d : Doing} → ◌≡◌ {A = Option Doing} None (Some d) → ⊥
    none e = cc
saves_opened older h t (Reading r) saves so = absurd (none so.does)
  where
    none : {d : Doing} → ◌≡◌ {A = Option Doing} None (Some d) → ⊥
    none e = cc
saves_opened older h t (Rolling None) saves so = tt
saves_opened older h t (Rolling (Some p)) saves so = absurd (none so.1.does)
  where
    none : {d : Doing} → ◌≡◌ {A = Option Doing} None (Some d) → ⊥
    none e = cc
saves_opened older h t Committing saves so = tt
saves_opened older h t Committed saves so = tt
saves_opened older h t Losing saves so = tt
saves_opened older h t Gone saves so = tt

-- flags
pub loses_out : (f c l a : Bool) → l ≡ true → (not f && (not c && (not l && a))) ≡ false
loses_out true c l a e = refl
loses_out false true l a e = refl
loses_out false false l a e = ap (λ (x : Bool). not x && a) e

pub crossed_out : (f c a : Bool) → c ≡ true → (not f && (not c && a)) ≡ false
crossed_out true c a e = refl
crossed_out false c a e = ap (λ (x : Bool). not x && a) e

unentered_opened : (older : List Record) (h : List Entry) (t : ℕ) (s : Status) → HasStatusOf (opened older) t s
    → IsUnentered h s
unentered_opened older h t (Waiting n o) so = let none : ◌≡◌ {A = Option Doing} None (Some (Awaits n)) = so.0.does in
    absurd (cc)
unentered_opened older h t _ so = tt

module _ (v : View) (m : Machine) (newer older : List Record) (legal : IsLegal (newer ++ older))
    (within : v.stable ≤ length older)
    (stands : StandsFor (with_log v (newer ++ older)) m)
  where
    abbrev whole : List Record
    whole = newer ++ older

    abbrev was : View
    was = with_log v whole

    survives : (t : ℕ) → Survival v m newer older t (m.txns t).status
    survives t =
        let x = stands.each t in
        survival v m newer older t legal within stands.recorded x.begun x.logged (m.txns t).status refl x.status x.spans
        x.entered

    -- an entry passes that keeps its number and doesn't fall
    abbrev passes : Entry → Bool
    passes e = not (nat_lt (length older) e.number) && not (survives e.txn).fell

    -- one of an operation that is left passes where its transaction doesn't fall
    passes_left : (n t : ℕ) (o : Op) (a : Answer) → IsOpBy older n t o
        → (passes (as_entry whole n t o a) && counts was (as_entry whole n t o a))
        ≡ (not (survives t).fell && counts was (as_entry whole n t o a))
    passes_left n t o a by =
        ap (λ (b : Bool). (not b && not (survives t).fell) && counts was (as_entry whole n t o a))
        (le-ltb (length older) n (op_number older n t o by).bounded)

    -- an operation that is left counts after the crash as it did before, if its transaction stands
    agrees : (n t : ℕ) (o : Op) → IsOpBy older n t o
        → Agrees whole older (λ e. passes e && counts was e) (counts (opened older)) n t o
    agrees n t o by =
        elim (cases_Bool (has_ended older t)) [
          | inl ended ↦
              let same = settled_op newer older n t o legal by ended in
              let kept = (survives t).over ended in
              let shut = left_ended older t ended in
              Both same.answer same.crossed (λ a.
              passes_left n t o a by
              ∙ (λ j. not (kept.0 j) && (not (same.crossed j) && (not (kept.1 j) && not (is_to_undo (kept.2 j) n))))
              ∙ sym (ap (λ (l : Bool). not (is_crossed older n) && (not l && true)) shut))
          | inr goes_on ↦
              let open_txn : IsOpen older t =
              record {
                begun = begun older t n (legal_end newer older legal) (op_step t o (record_at older n) by);
                goes_on = goes_on;
              } in
              Neither
              (λ a. passes_left n t o a by ∙ elim ((survives t).left open_txn) [
                | inl f ↦ ap (λ (b : Bool). not b && counts was (as_entry whole n t o a)) f
                | inr (inl l) ↦ loses_out (survives t).fell (is_crossed whole n) (v.loses t)
                    (not (is_to_undo (v.doing t) n)) l
                | inr (inr c) ↦ crossed_out (survives t).fell (is_crossed whole n)
                    (not (v.loses t) && not (is_to_undo (v.doing t) n)) (c n o (longer by))
              ])
              (λ a. crossed_out (is_crossed older n) (is_left_open older t) true (left_open older t open_txn))
        ]
      where
        longer : IsOpBy older n t o → IsOpBy whole n t o
        longer by = op_longer newer older n t o by

    abbrev after : List Entry
    after = map (fallen (λ t. (survives t).fell) (length older)) m.h

    entries_left : standing after ≡ filter (counts (opened older)) (hist older)
    entries_left =
        uncross_fallen (λ t. (survives t).fell) (length older) m.h
        ∙ ap (filter passes) stands.entries
        ∙ filter_twice passes (counts was) (hist whole)
        ∙ drop_over whole (λ e. passes e && counts was e) (length older) newer older (omega arith)
        (λ e above. ap (λ (b : Bool). (not b && not (survives e.txn).fell) && counts was e)
        (lt-ltb (length older) e.number above))
        ∙ alike whole older (λ e. passes e && counts was e) (counts (opened older)) older agrees

    txn_left : (t : ℕ) → IsTxnOf (opened older) after t (survives t).new
    txn_left t =
        let s = survives t in
        let status : HasStatusOf (opened older) t s.new.status =
        subst (HasStatusOf (opened older) t) (sym s.is_after) s.status in
        record {
          begun = s.begun;
          status = status;
          saves = saves_opened older after t s.new.status s.new.saves status;
          spans = subst (λ x. HoldsAs (opened older) t x s.new.spans) (sym s.is_after) s.spans;
          unentered = unentered_opened older after t s.new.status status;
          logged = s.logged;
          entered = λ n o by. elim (s.entered n o by) [
            | inl e ↦ inl (fallen_entry (λ u. (survives u).fell) (length older) m.h n t o
                (op_number older n t o by).bounded e)
            | inr e ↦ inr (e.0, subst IsUntold (sym s.is_after) e.1)
          ];
        }

    pub crashes : (n : Machine) × Step m Crashes n × StandsFor (opened older) n
    crashes = (
      record { h = after; txns = λ t. (survives t).new },
      (λ t. (survives t).fell, length older, λ t. (survives t).allowed, refl),
      record {
        entries = entries_left;
        falling = fallen_falling (λ t. (survives t).fell) (length older) m.h stands.falling;
        recorded = fallen_all (IsRecorded whole) (IsRecorded older) (λ t. (survives t).fell) (length older) m.h
            (λ e r above. record { is = λ some. absurd (omega (arith, some)); lost = λ none. refl })
            (λ e r at. record {
              is = λ some. op_shorter newer older e.number e.txn e.op at (r.is some);
              lost = λ none. or_left e.crossed ((survives e.txn).fell) (r.lost none);
            }) stands.recorded;
        each = txn_left;
      },
    )

-- the law
pub crash_is_a_step : CrashIsAStep
crash_is_a_step v m newer older legal stands split within =
    crashes v m newer older (subst IsLegal split legal) within
    (subst (λ log. StandsFor (with_log v log) m) split stands)
