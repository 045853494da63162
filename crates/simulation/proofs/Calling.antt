-- Calls and told lines in normal running.
use Rattle.std.proofs.Common.{◌≡◌, ℕ, ◌+◌, ◌<◌, ◌≤◌, Bool, false, List, [], ◌∷◌, length, Option, Some, None, is_some, refl, sym, ap, ◌∙◌, subst, arith, inl, inr, true≢false}
use Rattle.std.specs.Prelude.{◌&&◌, not, filter}
use Rattle.std.specs.List.{AllByRecursion}
use Rattle.std.proofs.lemmas.Bool.{cases_eq, cases_Bool}
use Rattle.record_key.specs.declared.op.Op.{Op}
use Rattle.record_key.specs.declared.op.Answer.{Answer}
use Rattle.history.specs.declared.record.Record.{Record}
use Rattle.history.specs.declared.record.Record.TheVariants as is
use Rattle.history.specs.History.{Entry}
use Rattle.history.specs.Spans.{changed_span}
use Rattle.history.specs.Log.{record_at, answer_of, is_crossed, IsOpen, IsOpBy, hist_in, entry_with}
use Rattle.history.specs.Legal.{IsLegal}
use Rattle.history.specs.ListMachine.{Machine, Txn, Status, Open, Waiting, Begins, Acts, IsFree, IsAbove, IsAboveAll, with_txn, blank}
use Rattle.log_laws.proofs.Records.{AnOp, at_newest, kept_at, op_step, op_same, both_same, which, newest_at, had_at}
use Rattle.log_laws.proofs.LegalLogs.{op_number, begun_number, unanswered_next}
use Rattle.log_laws.proofs.Named.{txn_below, open_begun}
use Rattle.simulation.specs.View.{View, Doing, Ready, Awaits, counts, is_to_undo, HasStatusOf, HasSaves, HasSavesOf, HoldsAs, AreSpans, IsUntold, StandsFor, IsOverLost, IsFreeOf}
use Rattle.simulation.specs.Running.{LeadsOn, after_begin, after_act, BeginIsAStep, ActIsAStep}
use Rattle.simulation.proofs.Entries.{Agrees, Both, alike}
use Rattle.simulation.proofs.Told.{losing_is, recorded_push}
use Rattle.simulation.proofs.Carrying.{Passes, passes, same_entries, txn_kept, one_changed, op_before, begun_so}
use Rattle.simulation.proofs.Doings.{put_same, put_other, open_as, numbers_below}

-- where a transaction does the same, its entries count the same
pub counts_same : (v : View) (n u : ℕ) (c : Bool) (x : Option Doing) → x ≡ v.doing u
    → (not c && (not (v.loses u) && not (is_to_undo (v.doing u) n)))
    ≡ (not c && (not (v.loses u) && not (is_to_undo x n)))
counts_same v n u c x same = ap (λ d. not c && (not (v.loses u) && not (is_to_undo d n))) (sym same)

-- the log's next number is above all others
waited_below : (v : View) (u : ℕ) (s : Status) → HasStatusOf v u s → IsAbove (length v.log + 1) s
waited_below v u (Waiting n q) so = omega (arith, (op_number v.log n u q so.1).bounded)
waited_below v u _ so = tt

next_above : (v : View) (m : Machine) → StandsFor v m → IsAboveAll (length v.log + 1) m
next_above v m stands = (
  numbers_below v m.h stands.recorded,
  λ u has_begun. omega (arith, (begun_number v.log u ((stands.each u).begun.0 has_begun)).bounded),
  λ u. waited_below v u (m.txns u).status (stands.each u).status,
)

-- a transaction begins
module _ (v : View) (m : Machine) (legal : IsLegal v.log) (stands : StandsFor v m) where
  abbrev new_txn : ℕ
  new_txn = length v.log + 1

  old : (u : ℕ) → u ≤ length v.log → u ≡ new_txn → ⊥
  old u le e = omega (arith, le, e)

  old_op : (n u : ℕ) (o : Op) → IsOpBy v.log n u o → u ≡ new_txn → ⊥
  old_op n u o by e = omega
      (arith, e, txn_below v.log u n legal (op_step u o (record_at v.log n) by), (op_number v.log n u o by).bounded)

  new_stays : v.loses new_txn ≡ false
  new_stays =
      elim (cases_Bool (v.loses new_txn)) [
        | inl l ↦
            let e = losing_is v new_txn (m.txns new_txn).status (stands.each new_txn).status l in
            absurd (old new_txn ((begun_number v.log new_txn
            (subst (HasStatusOf v new_txn) e (stands.each new_txn).status).open_txn.begun).bounded) refl)
        | inr l ↦ l
      ]

  begin_passes : (u : ℕ) → (u ≡ new_txn → ⊥) → Passes v (after_begin v) is.Begin u
  begin_passes u apart = grind arith

  begins_so : LeadsOn v m (Begins (length v.log + 1)) (after_begin v)
  begins_so = (
    with_txn m new_txn blank,
    (next_above v m stands, refl),
    record {
      entries = stands.entries ∙ alike v.log (is.Begin ∷ v.log) (counts v) (counts (after_begin v)) v.log (λ n u o by.
          Both refl refl (λ a. counts_same v n u (is_crossed v.log n) ((after_begin v).doing u)
          (put_other v.doing new_txn (Some Ready) u (old_op n u o by))));
      falling = stands.falling;
      recorded = recorded_push is.Begin v.log m.h stands.recorded;
      each = one_changed m (after_begin v) m.h new_txn blank
          (record {
            begun = (λ e. (open_begun v.log legal).begun, λ at. refl);
            status = record {
              open_txn = open_begun v.log legal;
              does = put_same v.doing new_txn (Some Ready);
              stays = new_stays;
            };
            saves = subst (HasSaves m.h new_txn (length v.log + 1 + 1) []) (sym (put_same v.saves new_txn [])) tt;
            spans = subst (AreSpans []) (sym (put_same v.spans new_txn [])) (λ s. (λ a. a, λ a. a));
            unentered = tt;
            logged = λ n o last. absurd (cc);
            entered = λ n o by. absurd (old_op n new_txn o (op_before is.Begin v.log new_txn n o (λ q e. cc) by) refl);
          })
          (λ u apart. txn_kept v (after_begin v) u (passes v (after_begin v) is.Begin u (begin_passes u apart)) m.h m.h
          (same_entries v.log m.h u) (m.txns u) (stands.each u));
    },
  )

pub begin_is_a_step : BeginIsAStep
begin_is_a_step v m legal stands = begins_so v m legal stands

-- an operation
module _ (v : View) (m : Machine) (t p : ℕ) (o : Op) (legal : IsLegal (is.Op t p o ∷ v.log)) (stands : StandsFor v m)
    (idle : v.doing t ≡ Some Ready)
    (is_free : IsFree m t (changed_span o))
  where
    abbrev act_record : Record
    act_record = is.Op t p o

    abbrev act_number : ℕ
    act_number = length v.log + 1

    abbrev act_view : View
    act_view = after_act v t p o

    act_next : answer_of v.log act_number ≡ None
    act_next = by (answer_of v.log act_number) (unanswered_next v.log legal.1)
      where
        by : (a : Option Answer) → is_some a ≡ false → a ≡ None
        by None e = refl
        by (Some a) e = absurd (true≢false e)

    act_agrees : (n u : ℕ) (q : Op) → IsOpBy v.log n u q
        → Agrees v.log (act_record ∷ v.log) (counts v) (counts act_view) n u q
    act_agrees n u q by = Both refl refl (λ a. elim (cases_eq u t) [
      | inr apart ↦ counts_same v n u (is_crossed v.log n) (act_view.doing u)
          (put_other v.doing t (Some (Awaits act_number)) u apart)
      | inl e ↦
          let was : v.doing u ≡ Some Ready = ap v.doing e ∙ idle in
          let now : act_view.doing u ≡ Some (Awaits act_number) = ap act_view.doing e
          ∙ put_same v.doing t (Some (Awaits act_number)) in
          ap (λ d. not (is_crossed v.log n) && (not (v.loses u) && not (is_to_undo d n))) was
          ∙ sym (ap (λ d. not (is_crossed v.log n) && (not (v.loses u) && not (is_to_undo d n))) now)
    ])

    act_passes : (u : ℕ) → (u ≡ t → ⊥) → Passes v act_view act_record u
    act_passes u apart = record {
      log = refl;
      stable = refl;
      loses = refl;
      doing = put_other v.doing t (Some (Awaits act_number)) u apart;
      saves = refl;
      spans = put_other v.spans t (changed_span o ∷ v.spans t) u apart;
      no_op = λ q e. apart (sym (op_same t u o q (Some act_record) refl e).0);
      no_end = refl;
      no_begin = λ at e. cc;
      waits = λ n q by d none. none;
    }

    free_next : (h : List Entry) → AllByRecursion (λ e. e.number < act_number) h
        → AllByRecursion (λ e. e.number ≡ act_number → ⊥) h
    free_next [] all = tt
    free_next (e ∷ h) all = (λ same. omega (arith, same, all.0), free_next h all.1)

    over_next : (h : List Entry) → AllByRecursion (λ e. e.number < act_number) h → IsOverLost act_number h
    over_next [] all = tt
    over_next (e ∷ h) all = (λ none. all.1, over_next h all.1)

    unentered_next : (h : List Entry) → AllByRecursion (λ e. e.number < act_number) h → IsFreeOf act_number h
    unentered_next h all = (free_next h all, over_next h all)

    acts_so : LeadsOn v m (Acts t o (length v.log + 1)) (after_act v t p o)
    acts_so =
        let at = open_as v m t stands idle in
        let x = stands.each t in
        let new : Txn = record (m.txns t) {
          status = Waiting act_number o;
          last = Some (act_number, o);
          spans = changed_span o ∷ (m.txns t).spans;
        } in
        let own_spans : HoldsAs v t Open (m.txns t).spans =
        subst (λ s. HoldsAs v t s (m.txns t).spans) at.is_so x.spans in
        let own_saves : HasSavesOf v m.h t Open (m.txns t).saves =
        subst (λ s. HasSavesOf v m.h t s (m.txns t).saves) at.is_so x.saves in
        let open_now : IsOpen (act_record ∷ v.log) t = (passes_open at.so.open_txn) in (
          with_txn m t new,
          (
            at.is_so,
            is_free,
            omega (arith, (begun_number v.log t at.so.open_txn.begun).bounded),
            next_above v m stands,
            refl,
          ),
          record {
            entries = stands.entries ∙ alike v.log (act_record ∷ v.log) (counts v) (counts act_view) v.log act_agrees
                ∙ sym (ap (λ a. filter (counts act_view)
                (entry_with (act_record ∷ v.log) act_number t o a (hist_in (act_record ∷ v.log) v.log))) act_next);
            falling = stands.falling;
            recorded = recorded_push act_record v.log m.h stands.recorded;
            each = one_changed m act_view m.h t new
                (record {
                  begun = begun_so act_record v.log t (m.txns t).begun (λ e. cc) x.begun;
                  status = (
                    record {
                      open_txn = open_now;
                      does = put_same v.doing t (Some (Awaits act_number));
                      stays = at.so.stays;
                    },
                    at_newest (AnOp t o) act_record v.log act_number refl refl,
                    act_next,
                  );
                  saves = own_saves;
                  spans = subst (AreSpans (changed_span o ∷ (m.txns t).spans))
                      (sym (put_same v.spans t (changed_span o ∷ v.spans t)))
                      (λ s. (
                        λ a. elim a [ inl e ↦ inl e | inr b ↦ inr ((own_spans s).0 b) ],
                        λ a. elim a [ inl e ↦ inl e | inr b ↦ inr ((own_spans s).1 b) ],
                      ));
                  unentered = unentered_next m.h (numbers_below v m.h stands.recorded);
                  logged = λ n q last.
                      let same = both_same act_number n o q last in
                      at_newest (AnOp t q) act_record v.log n (sym same.0) (ap (λ z. Some (t, z)) same.1);
                  entered = λ n q by. elim (which act_record v.log n (op_number (act_record ∷ v.log) n t q by)) [
                    | inl e ↦
                        let q_same : o ≡ q = (op_same t t o q (Some act_record) refl
                        (newest_at (AnOp t q) act_record v.log n e by)).1 in
                        inr ((λ j. Some (sym e j, q_same j)), tt)
                    | inr was ↦ elim (x.entered n q (had_at (AnOp t q) act_record v.log n was by)) [
                      | inl a ↦ inl a
                      | inr a ↦ absurd (subst IsUntold at.is_so a.1)
                    ]
                  ];
                })
                (λ u apart. txn_kept v act_view u (passes v act_view act_record u (act_passes u apart)) m.h m.h
                (same_entries v.log m.h u) (m.txns u) (stands.each u));
          },
        )
      where
        passes_open : IsOpen v.log t → IsOpen (act_record ∷ v.log) t
        passes_open h = record {
          begun = kept_at (λ x. x ≡ Some is.Begin) act_record v.log t
              (begun_number v.log t h.begun) h.begun;
          goes_on = h.goes_on;
        }

pub act_is_a_step : ActIsAStep
act_is_a_step v m t p o legal stands idle is_free = acts_so v m t p o legal stands idle is_free
