-- What a change in the slot of a number leaves.
use Rattle.std.proofs.Common.{◌≡◌, ◌≢◌, ℕ, zero, suc, ◌==◌, Bool, true, false, List, [], ◌∷◌, ◌++◌, remove, slice_get, Some, None, is_some, refl, sym, ap, ◌∙◌, append-nil, eq-eqb, ne_eqb}
use Rattle.std.specs.Prelude.{if◌then◌else◌}
use Rattle.std.specs.List.{AllByRecursion}
use Rattle.slab.specs.Slab.{Slab, get, Updates, with_value}
use Rattle.slab.proofs.SlabLemmas.{Updates-with_value}
use Rattle.tc_core.specs.declared.open_txn.OpenTxn.{OpenTxn}
use Rattle.tc_core.specs.OpenTxns.{find, replace, without}
use Rattle.tc_core.specs.Slots.{in_slots, AreSlots}
use Rattle.tc_core.proofs.Slots.{Holds, kept}
use Rattle.tc_core.specs.declared.change.Change.{Change}
use Rattle.tc_core.specs.declared.change.Change.TheVariants as what
use Rattle.tc_core.specs.Changed.{changed, happens_to, happens}
use Rattle.tc_core.proofs.Finding.{found_number}
use Rattle.tc_core.proofs.InSlots.{all_at, after_slot, before_slot, found_at}

replace_in_both : (new : OpenTxn) (xs ys : List OpenTxn) → replace new (xs ++ ys) ≡ replace new xs ++ replace new ys
replace_in_both new [] ys = refl
replace_in_both new (x ∷ xs) ys = ap (λ rest. (if x.txn == new.txn then new else x) ∷ rest) (replace_in_both new xs ys)

none_replaced : (new : OpenTxn) (os : List OpenTxn) → AllByRecursion (λ (o : OpenTxn). o.txn ≢ new.txn) os
    → replace new os ≡ os
none_replaced new [] apart = refl
none_replaced new (o ∷ os) apart = rw (ne_eqb o.txn new.txn apart.0, none_replaced new os apart.1) refl

without_both : (t : ℕ) (xs ys : List OpenTxn) → without t (xs ++ ys) ≡ without t xs ++ without t ys
without_both t [] ys = refl
without_both t (x ∷ xs) ys = pick (x.txn == t) (without_both t xs ys)
  where
    pick : (b : Bool) → without t (xs ++ ys) ≡ without t xs ++ without t ys
        → (if b then without t (xs ++ ys) else x ∷ without t (xs ++ ys))
        ≡ (if b then without t xs else x ∷ without t xs) ++ without t ys
    pick true rest = rest
    pick false rest = ap (λ os. x ∷ os) rest

all_without : (t : ℕ) (os : List OpenTxn) → AllByRecursion (λ (o : OpenTxn). o.txn ≢ t) os → without t os ≡ os
all_without t [] apart = refl
all_without t (o ∷ os) apart = rw (ne_eqb o.txn t apart.0, all_without t os apart.1) refl

-- what is left was among them
all_left : (P : ℕ × ℕ → Type 0) (es : List (ℕ × ℕ)) (i : ℕ) → AllByRecursion P es → AllByRecursion P (remove es i)
all_left P [] zero all = tt
all_left P [] (suc i) all = tt
all_left P (e ∷ es) zero all = all.1
all_left P (e ∷ es) (suc i) all = (all.0, all_left P es i all.1)

module _ (old new : Slab OpenTxn) (opened : OpenTxn) (s : ℕ) (u : Updates old new s (Some opened)) where
  replaced : (es : List (ℕ × ℕ)) (i : ℕ) → AreSlots old es → slice_get es i ≡ Some (opened.txn, s)
      → Holds new es (replace opened (in_slots old es))
  replaced [] i are place = absurd (cc)
  replaced (e ∷ es) zero are place =
      let slot : e.1 ≡ s = cc in
      let same : opened.txn ≡ e.0 = cc in
      let apart : AllByRecursion (λ (d : ℕ × ℕ). d.1 ≢ s) es = rw (← slot) are.0.apart in
      let others = kept old new (λ k. k ≢ s) u.others es apart are.1 in
      let now : get new e.1 ≡ Some opened = ap (get new) slot ∙ u.changed in
      record {
        are = (
          record { open_txn = opened; held = now; number = same; below = are.0.below; apart = are.0.apart },
          others.are,
        );
        view = rw (
          now,
          others.view,
          are.0.held,
          replace_in_both opened (in_slots old es) (are.0.open_txn ∷ []),
          eq-eqb are.0.open_txn.txn opened.txn (are.0.number ∙ sym same),
          none_replaced opened (in_slots old es) (rw same (after_slot old e es are)),
        ) refl;
      }
  replaced (e ∷ es) (suc i) are place =
      let differs : e.1 ≢ s = λ same. all_at (λ (d : ℕ × ℕ). d.1 ≢ e.1) es i _ are.0.apart place (sym same) in
      let now : get new e.1 ≡ Some are.0.open_txn = u.others e.1 differs ∙ are.0.held in
      let rest = replaced es i are.1 place in
      record {
        are = (
          record {
            open_txn = are.0.open_txn;
            held = now;
            number = are.0.number;
            below = are.0.below;
            apart = are.0.apart;
          },
          rest.are,
        );
        view = rw (
          now,
          rest.view,
          are.0.held,
          replace_in_both opened (in_slots old es) (are.0.open_txn ∷ []),
          ne_eqb are.0.open_txn.txn opened.txn (before_slot old e es i (opened.txn, s) are place),
        ) refl;
      }

module _ (old new : Slab OpenTxn) (t s : ℕ) (same : (k : ℕ) → k ≢ s → get new k ≡ get old k) where
  -- a number and what is in its slot are removed
  pub removed : (es : List (ℕ × ℕ)) (i : ℕ) → AreSlots old es → slice_get es i ≡ Some (t, s)
      → Holds new (remove es i) (without t (in_slots old es))
  removed [] i are place = absurd (cc)
  removed (e ∷ es) zero are place =
      let slot : e.1 ≡ s = cc in
      let number : t ≡ e.0 = cc in
      let apart : AllByRecursion (λ (d : ℕ × ℕ). d.1 ≢ s) es = rw (← slot) are.0.apart in
      let others = kept old new (λ k. k ≢ s) same es apart are.1 in
      record {
        are = others.are;
        view = rw (
          others.view,
          are.0.held,
          without_both t (in_slots old es) (are.0.open_txn ∷ []),
          eq-eqb are.0.open_txn.txn t (are.0.number ∙ sym number),
          all_without t (in_slots old es) (rw number (after_slot old e es are)),
          append-nil,
        ) refl;
      }
  removed (e ∷ es) (suc i) are place =
      let differs : e.1 ≢ s = λ is. all_at (λ (d : ℕ × ℕ). d.1 ≢ e.1) es i _ are.0.apart place (sym is) in
      let now : get new e.1 ≡ Some are.0.open_txn = same e.1 differs ∙ are.0.held in
      let rest = removed es i are.1 place in
      record {
        are = (
          record {
            open_txn = are.0.open_txn;
            held = now;
            number = are.0.number;
            below = all_left _ es i are.0.below;
            apart = all_left _ es i are.0.apart;
          },
          rest.are,
        );
        view = rw (
          now,
          rest.view,
          are.0.held,
          without_both t (in_slots old es) (are.0.open_txn ∷ []),
          ne_eqb are.0.open_txn.txn t (before_slot old e es i (t, s) are place),
        ) refl;
      }

-- something happens to the transaction in a number's slot
changed_number : (what : Change) (o : OpenTxn) → (changed what o).txn ≡ o.txn
changed_number (what.Stepped number undo waiting) o = refl
changed_number what.Answered o = refl
changed_number (what.Reads read) o = refl
changed_number what.Told o = refl
changed_number (what.Saved saves) o = refl
changed_number what.Rolls o = refl
changed_number (what.GoesBack rollback saves) o = refl
changed_number what.IsBack o = refl

pub changes : (what : Change) (t : ℕ) (slab : Slab OpenTxn) (es : List (ℕ × ℕ)) (os : List OpenTxn) → AreSlots slab es
    → in_slots slab es ≡ os
    → (i s : ℕ) (o : OpenTxn) → slice_get es i ≡ Some (t, s) → get slab s ≡ Some o
    → Holds (with_value slab s (changed what o)) es (happens t what os)
changes what t slab es os are view i s o place held =
    let found : find t os ≡ Some o = found_at slab t es os are view i s place ∙ held in
    let new : OpenTxn = changed what o in
    let number : new.txn ≡ t = changed_number what o ∙ found_number t os o found in
    let h = replaced slab (with_value slab s new) new s (Updates-with_value slab s new (ap is_some held)) es i are
    (rw number place) in
    record { are = h.are; view = h.view ∙ ap (replace new) view ∙ sym (ap (λ x. happens_to x what os) found) }

-- nothing happens where there is none
pub changes_none : (what : Change) (t : ℕ) (os : List OpenTxn) → find t os ≡ None → os ≡ happens t what os
changes_none what t os none = sym (ap (λ x. happens_to x what os) none)
