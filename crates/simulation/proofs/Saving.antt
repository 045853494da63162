-- Savepoints, and rollbacks to them.
use Rattle.std.proofs.Common.{◌≡◌, ℕ, zero, suc, ◌+◌, ◌-◌, ◌<◌, ◌≤◌, Bool, true, cond, List, [], ◌∷◌, ◌++◌, length, Some, refl, sym, ap, ◌∙◌, subst, arith, inl, inr, take}
use Rattle.std.specs.Prelude.{◌==◌, ◌&&◌, ◌↔◌, not, map, filter, nat_lt, slice_get}
use Rattle.std.proofs.lemmas.Bool.{or_left}
use Rattle.std.specs.List.{AllByRecursion, list_any}
use Rattle.record_key.specs.declared.op.Op.{Op}
use Rattle.history.specs.History.{Entry, numbers_of}
use Rattle.history.specs.Log.{IsOpBy, hist}
use Rattle.history.specs.ListMachine.{Machine, Txn, Rolling, GoesBack, with_txn}
use Rattle.simulation.specs.View.{View, Ready, Rolls, counts, HasStatusOf, HasSaves, HasSavesOf, HoldsAs, HasEntry, Remembers, IsUntold, IsRecorded, StandsFor}
use Rattle.simulation.specs.Running.{LeadsOn, after_save, after_go_back, SaveIsAStep, GoBackIsAStep}
use Rattle.simulation.proofs.Entries.{Agrees, alike, filter_twice, marked, uncross_marked, marked_all, marked_falling, marked_entry}
use Rattle.simulation.proofs.Carrying.{same_entries, txn_kept, one_changed}
use Rattle.simulation.proofs.Doings.{put_same, put_other, open_as, carries_view, numbers_below}
use Rattle.simulation.proofs.Undoing.{marked_entries}

-- what a new savepoint remembers
any_more : (n : ℕ) (e : Entry) (t : ℕ) (h : List Entry) (b : Bool) → list_any (λ j. j == n) (numbers_of t h) ≡ true
    → list_any (λ j. j == n)
    (map (λ (x : Entry). x.number) (cond b (e ∷ filter (λ x. x.txn == t) h) (filter (λ x. x.txn == t) h))) ≡ true
any_more n e t h b any = grind arith

any_here : (n : ℕ) (e : Entry) (t : ℕ) (h : List Entry) → e.number ≡ n → e.txn ≡ t
    → list_any (λ j. j == n)
    (map (λ (x : Entry). x.number)
    (cond (e.txn == t) (e ∷ filter (λ x. x.txn == t) h) (filter (λ x. x.txn == t) h))) ≡ true
any_here n e t h at own = grind arith

listed : (h : List Entry) (n t : ℕ) (o : Op) → HasEntry h n t o → list_any (λ j. j == n) (numbers_of t h) ≡ true
listed [] n t o has = absurd has
listed (e ∷ h) n t o (inl is) = any_here n e t h is.0 is.1
listed (e ∷ h) n t o (inr has) = any_more n e t h (e.txn == t) (listed h n t o has)

-- each entry is one
itself : (h g : List Entry) → ((n t : ℕ) (o : Op) → HasEntry h n t o → HasEntry g n t o)
    → AllByRecursion (λ e. HasEntry g e.number e.txn e.op) h
itself [] g each = tt
itself (e ∷ h) g each = (
  each e.number e.txn e.op (inl (refl, refl, refl)),
  itself h g (λ n t o has. each n t o (inr has)),
)

numbers_within : (t end : ℕ) (h : List Entry) → AllByRecursion (λ e. e.number < end + 1) h
    → AllByRecursion (λ j. j ≤ end) (numbers_of t h)
numbers_within t end [] all = tt
numbers_within t end (e ∷ h) all = grind (arith, numbers_within t end h all.1)

remembers_all : (t end : ℕ) (g h : List Entry) → AllByRecursion (λ e. HasEntry g e.number e.txn e.op) h
    → AllByRecursion (λ e. e.number < end + 1) h
    → AllByRecursion (λ e. e.txn ≡ t → (list_any (λ j. j == e.number) (numbers_of t g) ≡ true) ↔ (e.number ≤ end)) h
remembers_all t end g [] has all = tt
remembers_all t end g (e ∷ h) has all = grind (arith, remembers_all t end g h has.1 all.1, listed)

one_save_more : (h : List Entry) (t limit : ℕ) (saves : List (List ℕ)) (ends : List ℕ) (kept : List ℕ) (end : ℕ)
    → HasSaves h t limit saves ends → Remembers h t kept end → end < limit
    → HasSaves h t limit (saves ++ kept ∷ []) (ends ++ end ∷ [])
one_save_more h t limit [] [] kept end has r lt = (r, lt, tt)
one_save_more h t limit (k ∷ saves) (e ∷ ends) kept end has r lt =
    (has.0, has.1, one_save_more h t limit saves ends kept end has.2 r lt)
one_save_more h t limit [] (e ∷ ends) kept end has r lt = absurd has
one_save_more h t limit (k ∷ saves) [] kept end has r lt = absurd has

pub as_many : (h : List Entry) (t limit : ℕ) (saves : List (List ℕ)) (ends : List ℕ) → HasSaves h t limit saves ends
    → length saves ≡ length ends
as_many h t limit [] [] has = refl
as_many h t limit (k ∷ saves) (e ∷ ends) has = let rest = as_many h t limit saves ends has.2 in omega (arith, rest)
as_many h t limit [] (e ∷ ends) has = absurd has
as_many h t limit (k ∷ saves) [] has = absurd has

pub save_is_a_step : SaveIsAStep
save_is_a_step v m t s stands idle count le =
    let at = open_as v m t stands idle in
    let x = stands.each t in
    let own : HasSaves m.h t (length v.log + 1) (m.txns t).saves (v.saves t) =
    subst (λ z. HasSavesOf v m.h t z (m.txns t).saves) at.is_so x.saves in
    let new : Txn = record (m.txns t) { saves = (m.txns t).saves ++ numbers_of t m.h ∷ [] } in
    let ends : List ℕ = v.saves t ++ length v.log ∷ [] in
    let numbers = numbers_below v m.h stands.recorded in
    let r : Remembers m.h t (numbers_of t m.h) (length v.log) = record {
      same = remembers_all t (length v.log) m.h m.h (itself m.h m.h (λ n u o has. has)) numbers;
      within = numbers_within t (length v.log) m.h numbers;
    } in
    let more : HasSaves m.h t (length v.log + 1) ((m.txns t).saves ++ numbers_of t m.h ∷ [])
    (v.saves t ++ length v.log ∷ []) =
    one_save_more m.h t (length v.log + 1) (m.txns t).saves (v.saves t) (numbers_of t m.h) (length v.log) own r
    (omega arith) in
    let w : View = after_save v t in (
      with_txn m t new,
      (at.is_so, omega (arith, as_many m.h t (length v.log + 1) (m.txns t).saves (v.saves t) own, count), le, refl),
      record {
        entries = stands.entries;
        falling = stands.falling;
        recorded = stands.recorded;
        each = one_changed m w m.h t new
            (record {
              begun = x.begun;
              status = subst (HasStatusOf w t) (sym at.is_so)
                  (record { open_txn = at.so.open_txn; does = idle; stays = at.so.stays });
              saves = subst (λ z. HasSavesOf w m.h t z ((m.txns t).saves ++ numbers_of t m.h ∷ [])) (sym at.is_so)
                  (subst (HasSaves m.h t (length v.log + 1) ((m.txns t).saves ++ numbers_of t m.h ∷ []))
                  (sym (put_same v.saves t (v.saves t ++ length v.log ∷ []))) more);
              spans = subst (λ z. HoldsAs w t z (m.txns t).spans) (sym at.is_so)
                  (subst (λ z. HoldsAs v t z (m.txns t).spans) at.is_so x.spans);
              unentered = x.unentered;
              logged = x.logged;
              entered = x.entered;
            })
            (λ u apart. txn_kept v w u
            (carries_view v v.doing w.saves v.spans u refl
            (put_other v.saves t (v.saves t ++ length v.log ∷ []) u apart) refl)
            m.h m.h (same_entries v.log m.h u) (m.txns u) (stands.each u));
      },
    )

-- the savepoint of a place
record SaveAt (h : List Entry) (t : ℕ) (saves : List (List ℕ)) (i end : ℕ) : Type 0 where
  kept : List ℕ
  is : slice_get saves i ≡ Some kept
  remembers : Remembers h t kept end

save_at : (h : List Entry) (t limit : ℕ) (saves : List (List ℕ)) (ends : List ℕ) (i end : ℕ)
    → HasSaves h t limit saves ends → slice_get ends i ≡ Some end → SaveAt h t saves i end
save_at h t limit [] [] i end has at = absurd (cc)
save_at h t limit (k ∷ saves) (e ∷ ends) zero end has at = grind arith
save_at h t limit (k ∷ saves) (e ∷ ends) (suc i) end has at = grind (arith, save_at h t limit saves ends i end has.2)
save_at h t limit [] (e ∷ ends) i end has at = absurd has
save_at h t limit (k ∷ saves) [] i end has at = absurd has

first_saves : (h : List Entry) (t limit : ℕ) (saves : List (List ℕ)) (ends : List ℕ) (n : ℕ)
    → HasSaves h t limit saves ends → HasSaves h t limit (take n saves) (take n ends)
first_saves h t limit [] [] zero has = tt
first_saves h t limit [] [] (suc n) has = tt
first_saves h t limit (k ∷ saves) (e ∷ ends) zero has = tt
first_saves h t limit (k ∷ saves) (e ∷ ends) (suc n) has = (has.0, has.1, first_saves h t limit saves ends n has.2)
first_saves h t limit [] (e ∷ ends) n has = absurd has
first_saves h t limit (k ∷ saves) [] n has = absurd has

-- by the numbers that a savepoint remembers, or by the log's end there
same_marks : (f g : ℕ → ℕ → Bool) (h : List Entry) → AllByRecursion (λ e. f e.txn e.number ≡ g e.txn e.number) h
    → map (marked f) h ≡ map (marked g) h
same_marks f g [] all = refl
same_marks f g (e ∷ h) all = grind (arith, same_marks f g h all.1)

above_or_kept : (u t n end : ℕ) (any : Bool) → (u ≡ t → (any ≡ true) ↔ (n ≤ end))
    → ((u == t) && not any) ≡ ((u == t) && nat_lt end n)
above_or_kept u t n end any same = grind arith

marks_of : (t end : ℕ) (kept : List ℕ) (h : List Entry)
    → AllByRecursion (λ e. e.txn ≡ t → (list_any (λ j. j == e.number) kept ≡ true) ↔ (e.number ≤ end)) h
    → AllByRecursion (λ e. ((e.txn == t) && not (list_any (λ j. j == e.number) kept))
    ≡ ((e.txn == t) && nat_lt end e.number)) h
marks_of t end kept [] all = tt
marks_of t end kept (e ∷ h) all = grind (arith, marks_of t end kept h all.1, above_or_kept)

swap_out : (b c l : Bool) → (not b && (not c && (not l && true))) ≡ (not c && (not l && not b))
swap_out b c l = grind arith

module _ (v : View) (m : Machine) (t s end : ℕ) (stands : StandsFor v m) (idle : v.doing t ≡ Some Ready) (some : 1 ≤ s)
    (at_end : slice_get (v.saves t) (s - 1) ≡ Some end) where
  abbrev back : View
  back = after_go_back v t s end

  abbrev past : ℕ → ℕ → Bool
  past u n = (u == t) && nat_lt end n

  past_agrees : (n u : ℕ) (q : Op) → IsOpBy v.log n u q
      → Agrees v.log v.log (λ e. not (past e.txn e.number) && counts v e) (counts back) n u q
  past_agrees n u q by = grind arith

  pub goes_back_so : LeadsOn v m (GoesBack t s) (after_go_back v t s end)
  goes_back_so =
      let at = open_as v m t stands idle in
      let x = stands.each t in
      let own : HasSaves m.h t (length v.log + 1) (m.txns t).saves (v.saves t) =
      subst (λ z. HasSavesOf v m.h t z (m.txns t).saves) at.is_so x.saves in
      let save = save_at m.h t (length v.log + 1) (m.txns t).saves (v.saves t) (s - 1) end own at_end in
      let new : Txn = record (m.txns t) { status = Rolling (Some s); saves = take s (m.txns t).saves } in
      let kept_marks : ℕ → ℕ → Bool = λ u n. (u == t) && not (list_any (λ j. j == n) save.kept) in
      let same : map (marked kept_marks) m.h ≡ map (marked past) m.h =
      same_marks kept_marks past m.h (marks_of t end save.kept m.h save.remembers.same) in
      let h : List Entry = map (marked past) m.h in
      let carried = first_saves m.h t (length v.log + 1) (m.txns t).saves (v.saves t) s own in (
        record (with_txn m t new) { h = h },
        (save.kept, at.is_so, some, save.is, λ j. record (with_txn m t new) { h = sym same j }),
        record {
          entries = uncross_marked past m.h ∙ ap (filter (λ e. not (past e.txn e.number))) stands.entries
              ∙ filter_twice (λ e. not (past e.txn e.number)) (counts v) (hist v.log)
              ∙ alike v.log v.log (λ e. not (past e.txn e.number) && counts v e) (counts back) v.log past_agrees;
          falling = marked_falling past m.h stands.falling;
          recorded = marked_all (IsRecorded v.log) (IsRecorded v.log) past m.h
              (λ e r. record { is = r.is; lost = λ none. or_left e.crossed _ (r.lost none) }) stands.recorded;
          each = one_changed m back h t new
              (record {
                begun = x.begun;
                status = (
                  end,
                  record {
                    open_txn = at.so.open_txn;
                    does = put_same v.doing t (Some (Rolls (Some s) end));
                    stays = at.so.stays;
                  },
                );
                saves = subst (HasSaves h t (length v.log + 1) (take s (m.txns t).saves))
                    (sym (put_same v.saves t (take s (v.saves t))))
                    (marked_saves (length v.log + 1) (take s (m.txns t).saves) (take s (v.saves t)) carried);
                spans = subst (λ z. HoldsAs v t z (m.txns t).spans) at.is_so x.spans;
                unentered = tt;
                logged = x.logged;
                entered = λ n q by. elim (x.entered n q by)
                    [ inl a ↦ inl (marked_entry past m.h n t q a) | inr a ↦ absurd (subst IsUntold at.is_so a.1) ];
              })
              (λ u apart. txn_kept v back u
              (carries_view v back.doing back.saves v.spans u
              (put_other v.doing t (Some (Rolls (Some s) end)) u apart)
              (put_other v.saves t (take s (v.saves t)) u apart) refl)
              m.h h (marked_entries v.log past m.h u) (m.txns u) (stands.each u));
        },
      )
    where
      marked_saves : (limit : ℕ) (saves : List (List ℕ)) (ends : List ℕ) → HasSaves m.h t limit saves ends
          → HasSaves (map (marked past) m.h) t limit saves ends
      marked_saves limit [] [] has = tt
      marked_saves limit (k ∷ saves) (e ∷ ends) has =
          ((marked_entries v.log past m.h t).remembers k e has.0, has.1, marked_saves limit saves ends has.2)
      marked_saves limit [] (e ∷ ends) has = absurd has
      marked_saves limit (k ∷ saves) [] has = absurd has

pub go_back_is_a_step : GoBackIsAStep
go_back_is_a_step v m t s end stands idle some at_end = goes_back_so v m t s end stands idle some at_end
