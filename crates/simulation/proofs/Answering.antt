-- An answer that a client waits for.
use Rattle.std.proofs.Common.{◌≡◌, ◌≢◌, ℕ, ◌+◌, ◌<◌, ◌≤◌, Bool, true, false, cond, List, [], ◌∷◌, length, Option, Some, None, is_some, refl, sym, ap, ◌∙◌, subst, arith, inl, inr, ◌⊎◌, true≢false, ne_eqb, eqb-true}
use Rattle.std.specs.Prelude.{◌==◌, ◌&&◌, not, filter, if◌then◌else◌}
use Rattle.std.specs.List.{AllByRecursion, list_any}
use Rattle.std.specs.FinMap.{get}
use Rattle.std.proofs.lemmas.Bool.{cases_eq, cases_Bool, or_cases}
use Rattle.record_key.specs.declared.op.Op.{Op}
use Rattle.record_key.specs.declared.op.Answer.{Answer}
use Rattle.record_key.specs.Table.{Bytes, Table, key_of, is_add, AreAdds, value_after, answer_at, answer_in, after}
use Rattle.record_key.proofs.Tables.{is_same, is_same-true, is_same-refl, get-with_record, get-with_record_other}
use Rattle.record_key.proofs.Adds.{SeenAlike, seen_same, seen_after, seen_right, answered_alike}
use Rattle.history.specs.declared.record.Record.{Record}
use Rattle.history.specs.declared.record.Record.TheVariants as is
use Rattle.history.specs.History.{Entry, plain, placed}
use Rattle.history.specs.Log.{record_at, answer_of, is_crossed, IsOpen, IsOpBy, hist}
use Rattle.history.specs.Legal.{IsLegal}
use Rattle.history.specs.Values.{HasRightAnswers}
use Rattle.history.specs.ListMachine.{Machine, Txn, Open, Waiting, TellsAnswer, with_txn}
use Rattle.log_laws.proofs.Records.{op_same, both_same}
use Rattle.log_laws.proofs.LegalLogs.{op_number, kept_begun}
use Rattle.log_laws.proofs.Plain.{get-after}
use Rattle.log_laws.proofs.Sharing.{share_adds}
use Rattle.log_laws.proofs.Named.{unanswered_uncrossed}
use Rattle.simulation.specs.View.{View, Doing, Ready, Awaits, Looks, Rolls, counts, is_to_undo, standing, HasStatusOf, HasSaves, HasSavesOf, HoldsAs, HasEntry, IsUntold, IsFreeOf, IsUnentered, IsRecorded, StandsFor}
use Rattle.simulation.specs.Running.{LeadsOn, after_answer, AnswerIsTold}
use Rattle.simulation.proofs.Entries.{Agrees, Both, alike}
use Rattle.simulation.proofs.Told.{losing_is, recorded_push}
use Rattle.simulation.proofs.Carrying.{CarriesEntries, Passes, passes, txn_kept, one_changed, op_before, op_after, begun_so}
use Rattle.simulation.proofs.Doings.{put_same, put_other, status_for, rolling_as}
use Rattle.simulation.proofs.Calling.{counts_same}
use Rattle.simulation.proofs.Undoing.{both_below}
use Rattle.simulation.proofs.RightAnswers.{told_right}
use Rattle.simulation.proofs.Placing.{hist_answer, all_hist, all_placed, filter_placed, placed_falling, placed_over, placed_entry, placed_itself, hist_falling, hist_over}

-- what an operation leaves at a key depends on what was there
same_after : (m n : Table) (o : Op) (k : Bytes) → get m k ≡ get n k → get (after m o) k ≡ get (after n o) k
same_after m n o k same =
    get-with_record m (key_of o) (value_after o (get m (key_of o))) k ∙ pick (is_same k (key_of o)) refl
    ∙ sym (get-with_record n (key_of o) (value_after o (get n (key_of o))) k)
  where
    pick : (b : Bool) → is_same k (key_of o) ≡ b
        → cond b (value_after o (get m (key_of o))) (get m k) ≡ cond b (value_after o (get n (key_of o))) (get n k)
    pick true is = let P : Bytes
        → Type 0 = λ z. get m z ≡ get n z in ap (value_after o) (subst P (is_same-true k (key_of o) is) same)
    pick false isnt = same

-- the plain map is that of the entries that aren't crossed
pub plain_uncrossed : (h : List Entry) → plain (standing h) ≡ plain h
plain_uncrossed [] = refl
plain_uncrossed (e ∷ h) = by e.number e.txn e.op e.answer e.crossed h (plain_uncrossed h)
  where
    by : (n t : ℕ) (o : Op) (a : Answer) (c : Bool) (h : List Entry) → plain (standing h) ≡ plain h
        → plain (standing (record { number = n; txn = t; op = o; answer = a; crossed = c } ∷ h))
        ≡ plain (record { number = n; txn = t; op = o; answer = a; crossed = c } ∷ h)
    by n t o a true h rest = rest
    by n t o a false h rest = ap (λ m. after m o) rest

-- at a key, a filter changes nothing that takes only crossed entries, and those of other keys
pub record IsHarmless (p : Entry → Bool) (k : Bytes) (e : Entry) : Type 0 where
  pub out : p e ≡ false → (e.crossed ≡ true) ⊎ (k ≢ key_of e.op)
  pub stays : p e ≡ true → e.crossed ≡ false

pub plain_filtered : (p : Entry → Bool) (k : Bytes) (h : List Entry) → AllByRecursion (IsHarmless p k) h
    → get (plain (filter p h)) k ≡ get (plain h) k
plain_filtered p k [] all = refl
plain_filtered p k (e ∷ h) all = grind (arith, plain_filtered p k h all.1, get-with_record_other, same_after)

-- the same where what an Add sees is asked, and the filter may take Adds too
seen_op : (m n : Table) (o : Op) (k : Bytes) → SeenAlike (get m k) (get n k)
    → SeenAlike (get (after m o) k) (get (after n o) k)
seen_op m n o k h = grind (arith, get-after, seen_after)

-- at an operation's key, a filter takes only crossed entries, and those of other keys, and Adds where it is one
pub record IsHarmlessTo (p : Entry → Bool) (o : Op) (e : Entry) : Type 0 where
  pub out : p e ≡ false → (e.crossed ≡ true) ⊎ ((key_of o ≢ key_of e.op) ⊎ AreAdds o e.op)
  pub stays : p e ≡ true → e.crossed ≡ false

-- one entry that is taken
seen_taken : (v : Option Bytes) (m : Table) (e : Entry) (o : Op)
    → (e.crossed ≡ true) ⊎ ((key_of o ≢ key_of e.op) ⊎ AreAdds o e.op) → SeenAlike v (get m (key_of o))
    → SeenAlike v (get (if e.crossed then m else after m e.op) (key_of o))
seen_taken v m e o why h = grind (arith, is_same-true, seen_right, get-after)

seen_filtered : (p : Entry → Bool) (o : Op) (h : List Entry) → AllByRecursion (IsHarmlessTo p o) h
    → SeenAlike (get (plain (filter p h)) (key_of o)) (get (plain h) (key_of o))
seen_filtered p o [] all = seen_same (get (plain []) (key_of o))
seen_filtered p o (e ∷ h) all = grind (arith, seen_filtered p o h all.1, seen_op, seen_taken)

-- so the operation is answered alike
pub answer_filtered : (p : Entry → Bool) (o : Op) (h : List Entry) → AllByRecursion (IsHarmlessTo p o) h
    → answer_at o (get (plain (filter p h)) (key_of o)) ≡ answer_at o (get (plain h) (key_of o))
answer_filtered p o h all =
    elim (cases_Bool (is_add o)) [
      | inl add ↦ answered_alike o (get (plain (filter p h)) (key_of o)) (get (plain h) (key_of o)) add
          (seen_filtered p o h all)
      | inr none ↦ ap (answer_at o) (plain_filtered p (key_of o) h (all_so (IsHarmlessTo p o) (IsHarmless p (key_of o))
          (λ e to. record {
            out = λ drops. elim (to.out drops) [
              | inl c ↦ inl c
              | inr why ↦ elim why [
                | inl apart ↦ inr apart
                | inr both ↦ absurd (true≢false (sym both.0 ∙ none))
              ]
            ];
            stays = to.stays;
          }) h all))
    ]
  where
    all_so : (P Q : Entry → Type 0) → ((e : Entry) → P e → Q e) → (h : List Entry) → AllByRecursion P h
        → AllByRecursion Q h
    all_so P Q so [] all = tt
    all_so P Q so (e ∷ h) all = (so e all.0, all_so P Q so h all.1)

-- operations of two open transactions have two keys, or are Adds
keys_apart : (log : List Record) (n t m u : ℕ) (o q : Op) → IsLegal log → IsOpBy log n t o → IsOpen log t
    → IsOpBy log m u q → IsOpen log u → u ≢ t → (key_of o ≢ key_of q) ⊎ AreAdds o q
keys_apart log n t m u o q legal by open_t is_op open_u other =
    elim (cases_Bool (is_same (key_of o) (key_of q))) [
      | inl same ↦ inr (share_adds log n t m u o q legal by open_t is_op open_u other
          (is_same-true (key_of o) (key_of q) same))
      | inr apart ↦ inl (λ same.
          true≢false (sym (ap (λ z. is_same z (key_of q)) same ∙ is_same-refl (key_of q)) ∙ apart))
    ]

-- flags
pub why_out : (c l a : Bool) → (not c && (not l && not a)) ≡ false → (c ≡ true) ⊎ ((l ≡ true) ⊎ (a ≡ true))
why_out true l a e = inl refl
why_out false true a e = inr (inl refl)
why_out false false true e = inr (inr refl)
why_out false false false e = absurd (true≢false e)

pub why_in : (c x : Bool) → (not c && x) ≡ true → c ≡ false
why_in true x e = absurd (true≢false (sym e))
why_in false x e = refl

unlisted : (kept : List ℕ) (n end : ℕ) → end < n → AllByRecursion (λ j. j ≤ end) kept
    → list_any (λ j. j == n) kept ≡ true → ⊥
unlisted [] n end lt all any = true≢false (sym any)
unlisted (j ∷ kept) n end lt all any =
    elim (or_cases (j == n) (list_any (λ i. i == n) kept) any) [
      | inl e ↦ omega (arith, lt, all.0, eqb-true j n e)
      | inr rest ↦ unlisted kept n end lt all.1 rest
    ]

module _ (v : View) (m : Machine) (t n : ℕ) (a : Answer) (legal : IsLegal (is.Answer n a ∷ v.log))
    (right : HasRightAnswers (is.Answer n a ∷ v.log)) (stands : StandsFor v m)
    (awaits : v.doing t ≡ Some (Awaits n))
  where
    abbrev view : View
    view = after_answer v t n a

    is_waiting : (m.txns t).status ≡ Waiting n (status_for v m t (Awaits n) stands awaits).0
    is_waiting = (status_for v m t (Awaits n) stands awaits).1

    waiting : HasStatusOf v t (Waiting n (status_for v m t (Awaits n) stands awaits).0)
    waiting = subst (HasStatusOf v t) is_waiting (stands.each t).status

    abbrev o : Op
    o = (status_for v m t (Awaits n) stands awaits).0

    uncrossed_yet : is_crossed v.log n ≡ false
    uncrossed_yet = unanswered_uncrossed v.log n legal.1 (ap is_some waiting.2)

    -- who rolls back or loses is another that is open
    rolls_open : (u k : ℕ) → is_to_undo (v.doing u) k ≡ true → IsOpen v.log u × (u ≢ t)
    rolls_open u k above = by (v.doing u) refl above
      where
        by : (d : Option Doing) → v.doing u ≡ d → is_to_undo d k ≡ true → IsOpen v.log u × (u ≢ t)
        by None e h = absurd (true≢false (sym h))
        by (Some Ready) e h = absurd (true≢false (sym h))
        by (Some (Awaits j)) e h = absurd (true≢false (sym h))
        by (Some (Looks s)) e h = absurd (true≢false (sym h))
        by (Some (Rolls p b)) e h = (
          (rolling_as v m u p b stands e).so.1.open_txn,
          λ same. (let both : Some (Rolls p b) ≡ Some (Awaits n) = sym e ∙ ap v.doing same ∙ awaits in cc),
        )

    loses_open : (u : ℕ) → v.loses u ≡ true → IsOpen v.log u × (u ≢ t)
    loses_open u l = (
      (subst (HasStatusOf v u) (losing_is v u (m.txns u).status (stands.each u).status l)
          (stands.each u).status).open_txn,
      λ same. true≢false (sym l ∙ ap v.loses same ∙ waiting.0.stays),
    )

    harmless : (k u : ℕ) (q : Op) → IsOpBy v.log k u q → (b : Answer)
        → IsHarmlessTo (counts v) o
        (record { number = k; txn = u; op = q; answer = b; crossed = is_crossed v.log k })
    harmless k u q by b = record {
      out = λ no_count. elim (why_out (is_crossed v.log k) (v.loses u) (is_to_undo (v.doing u) k) no_count) [
        | inl c ↦ inl c
        | inr (inl l) ↦ let h = loses_open u l in
            inr (keys_apart v.log n t k u o q legal.1 waiting.1 waiting.0.open_txn by h.0 h.1)
        | inr (inr r) ↦ let h = rolls_open u k r in
            inr (keys_apart v.log n t k u o q legal.1 waiting.1 waiting.0.open_txn by h.0 h.1)
      ];
      stays = λ c. why_in (is_crossed v.log k) (not (v.loses u) && not (is_to_undo (v.doing u) k)) c;
    }

    told_so : a ≡ answer_in (plain m.h) o
    told_so =
        told_right v.log n t o legal.1 right.1 waiting.0.open_txn waiting.1 waiting.2 uncrossed_yet a right.0
        ∙ sym (ap (λ x. answer_at o (get x (key_of o))) (sym (plain_uncrossed m.h) ∙ ap plain stands.entries)
        ∙ answer_filtered (counts v) o (hist v.log) (all_hist (IsHarmlessTo (counts v) o) v.log v.log harmless))

    abbrev entry : Entry
    entry = record { number = n; txn = t; op = o; answer = a; crossed = false }

    counts_here : counts view entry ≡ true
    counts_here =
        ap (λ (l : Bool). not l && not (is_to_undo (view.doing t) n)) waiting.0.stays
        ∙ ap (λ d. not (is_to_undo d n)) (put_same v.doing t (Some Ready))

    answer_agrees : (k u : ℕ) (q : Op) → IsOpBy v.log k u q → Agrees v.log v.log (counts v) (counts view) k u q
    answer_agrees k u q by = Both refl refl (λ b. elim (cases_eq u t) [
      | inr apart ↦ counts_same v k u (is_crossed v.log k) (view.doing u) (put_other v.doing t (Some Ready) u apart)
      | inl e ↦
          both_below v k u (is_crossed v.log k) (v.doing u) (view.doing u)
          (ap (λ d. is_to_undo d k) (ap v.doing e ∙ awaits))
          (ap (λ d. is_to_undo d k) (ap view.doing e ∙ put_same v.doing t (Some Ready)))
    ])

    positive : 0 < n
    positive = (op_number v.log n t o waiting.1).positive

    own_unentered : IsFreeOf n m.h
    own_unentered = subst (IsUnentered m.h) is_waiting (stands.each t).unentered

    entries_so : standing (placed entry m.h) ≡ filter (counts view) (hist (is.Answer n a ∷ v.log))
    entries_so =
        filter_placed (λ e. not e.crossed) entry m.h refl stands.falling own_unentered.1
        ∙ ap (placed entry) (stands.entries ∙ alike v.log v.log (counts v) (counts view) v.log answer_agrees)
        ∙ sym (filter_placed (counts view) entry (hist v.log) counts_here (hist_falling v.log v.log)
        (hist_over n v.log v.log))
        ∙ ap (filter (counts view)) (sym (hist_answer v.log n t o a waiting.2 uncrossed_yet waiting.1))

    answer_passes : (u : ℕ) → (u ≡ t → ⊥) → Passes v view (is.Answer n a) u
    answer_passes u apart = record {
      log = refl;
      stable = refl;
      loses = refl;
      doing = put_other v.doing t (Some Ready) u apart;
      saves = refl;
      spans = refl;
      no_op = λ q e. cc;
      no_end = refl;
      no_begin = λ at e. cc;
      waits = λ k q by d none. ap (λ (b : Bool). cond b (Some a) (answer_of v.log k)) (ne_eqb k n (λ e.
          apart (op_same u t q o (record_at v.log n) (subst (λ (z : ℕ). IsOpBy v.log z u q) e by) waiting.1).0)) ∙ none;
    }

    other_entries : (u : ℕ) → (u ≡ t → ⊥) → CarriesEntries v.log m.h (placed entry m.h) u
    other_entries u apart = record {
      entry = λ k q e. placed_entry entry m.h k u q e;
      remembers = λ kept end r.
          record { same = all_placed _ entry m.h (λ e. absurd (apart (sym e))) r.same; within = r.within };
      unentered = λ k q by free. (
        all_placed _ entry m.h
            (λ e. apart (op_same u t q o (record_at v.log n) (subst (λ (z : ℕ). IsOpBy v.log z u q) (sym e) by)
            waiting.1).0) free.0,
        placed_over entry k m.h positive free.1,
      );
    }

    saves_so : (low high : ℕ) (saves : List (List ℕ)) (ends : List ℕ) → low ≤ n → low ≤ high
        → HasSaves m.h t low saves ends → HasSaves (placed entry m.h) t high saves ends
    saves_so low high [] [] le lh has = tt
    saves_so low high (kept ∷ saves) (end ∷ ends) le lh has = (
      record {
        same = all_placed _ entry m.h
            (λ e. (
              λ any. absurd (unlisted kept n end (omega (arith, has.1, le)) has.0.within any),
              λ at. absurd (omega (arith, has.1, le, at)),
            )) has.0.same;
        within = has.0.within;
      },
      omega (arith, has.1, lh),
      saves_so low high saves ends le lh has.2,
    )
    saves_so low high [] (end ∷ ends) le lh has = absurd has
    saves_so low high (kept ∷ saves) [] le lh has = absurd has

    no_entry : (h : List Entry) → HasEntry h n t o → AllByRecursion (λ e. e.number ≡ n → ⊥) h → ⊥
    no_entry [] has all = has
    no_entry (e ∷ h) (inl at) all = all.0 at.0
    no_entry (e ∷ h) (inr has) all = no_entry h has all.1

    answers_so : LeadsOn v m (TellsAnswer t a) (after_answer v t n a)
    answers_so =
        let x = stands.each t in
        let new : Txn = record (m.txns t) { status = Open } in
        let own_saves : HasSavesOf v m.h t (Waiting n o) (m.txns t).saves =
        subst (λ s. HasSavesOf v m.h t s (m.txns t).saves) is_waiting x.saves in (
          record (with_txn m t new) { h = placed entry m.h },
          (n, o, is_waiting, told_so, refl),
          record {
            entries = entries_so;
            falling = placed_falling entry m.h positive own_unentered stands.falling;
            recorded = all_placed (IsRecorded view.log) entry m.h
                (record {
                  is = λ some. op_after (is.Answer n a) v.log t n o waiting.1;
                  lost = λ none. absurd (omega (arith, none, positive));
                })
                (recorded_push (is.Answer n a) v.log m.h stands.recorded);
            each = one_changed m view (placed entry m.h) t new
                (record {
                  begun = begun_so (is.Answer n a) v.log t (m.txns t).begun (λ e. cc) x.begun;
                  status = record {
                    open_txn = goes_on waiting.0.open_txn;
                    does = put_same v.doing t (Some Ready);
                    stays = waiting.0.stays;
                  };
                  saves = saves_so n (length view.log + 1) (m.txns t).saves (v.saves t) (omega arith)
                      (omega (arith, (op_number v.log n t o waiting.1).bounded)) own_saves;
                  spans = subst (λ s. HoldsAs v t s (m.txns t).spans) is_waiting x.spans;
                  unentered = tt;
                  logged = λ k q last. op_after (is.Answer n a) v.log t k q (x.logged k q last);
                  entered = λ k q by.
                      let was : IsOpBy v.log k t q = op_before (is.Answer n a) v.log t k q (λ z e. cc) by in
                      elim (x.entered k q was) [
                        | inl h ↦ inl (placed_entry entry m.h k t q h)
                        | inr h ↦ inl (its_own k q was h)
                      ];
                })
                (λ u apart. txn_kept v view u (passes v view (is.Answer n a) u (answer_passes u apart)) m.h
                (placed entry m.h) (other_entries u apart) (m.txns u) (stands.each u));
          },
        )
      where
        goes_on : IsOpen v.log t → IsOpen (is.Answer n a ∷ v.log) t
        goes_on h = record { begun = kept_begun (is.Answer n a) v.log t h.begun; goes_on = h.goes_on }

        its_own : (k : ℕ) (q : Op) → IsOpBy v.log k t q → ((m.txns t).last ≡ Some (k, q)) × IsUntold (m.txns t).status
            → HasEntry (placed entry m.h) k t q
        its_own k q by h =
            elim ((stands.each t).entered n o waiting.1) [
              | inl e ↦ absurd (no_entry m.h e own_unentered.0)
              | inr l ↦
                  let same = both_same n k o q (sym l.0 ∙ h.0) in
                  subst (λ (z : ℕ). HasEntry (placed entry m.h) z t q) same.0
                  (subst (HasEntry (placed entry m.h) n t) same.1 (placed_itself entry m.h))
            ]

pub answer_is_told : AnswerIsTold
answer_is_told v m t n a legal right stands awaits = answers_so v m t n a legal right stands awaits
