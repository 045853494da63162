-- A number above all takes the last place, and its transaction the first.
use Rattle.std.proofs.Common.{◌≡◌, ◌≢◌, ℕ, ◌<◌, List, [], ◌∷◌, ◌++◌, Some, None, refl, sym, ap, ◌∙◌, subst}
use Rattle.std.specs.List.{AllByRecursion}
use Rattle.slab.specs.Slab.{Slab, get, Updates}
use Rattle.tc_core.specs.declared.open_txn.OpenTxn.{OpenTxn}
use Rattle.tc_core.specs.OpenTxns.{AreBelow}
use Rattle.tc_core.specs.Slots.{listed, in_slots, AreSlots}
use Rattle.record_key.proofs.Lists.{all_appended}
use Rattle.framed_log.proofs.ReadOnce.{all_older}
use Rattle.tc_core.proofs.Slots.{Holds, same_slots}

all_front : {X : Type 0} (P : X → Type 0) (xs ys : List X) → AllByRecursion P (xs ++ ys) → AllByRecursion P xs
all_front P [] ys all = tt
all_front P (x ∷ xs) ys all = (all.0, all_front P xs ys all.1)

entries_below : (t : ℕ) (slab : Slab OpenTxn) (es : List (ℕ × ℕ)) → AreSlots slab es → AreBelow t (in_slots slab es)
    → AllByRecursion (λ (e : ℕ × ℕ). e.0 < t) es
entries_below t slab [] are below = tt
entries_below t slab (e ∷ es) are below =
    let own : AreBelow t (are.0.open_txn ∷ []) =
    rw are.0.held at (all_older _ (in_slots slab es) (listed (get slab e.1)) below) in (
      rw (← are.0.number) own.0,
      entries_below t slab es are.1 (all_front _ (in_slots slab es) (listed (get slab e.1)) below),
    )

module _ (old new : Slab OpenTxn) (s : ℕ) (opened : OpenTxn) (vacant : get old s ≡ None)
    (u : Updates old new s (Some opened)) where
  occupied : (k : ℕ) (o : OpenTxn) → get old k ≡ Some o → k ≢ s
  occupied k o held same = absurd (let there : get old k ≡ get old s = ap (get old) same in cc)

  at_end : (es : List (ℕ × ℕ)) → AreSlots old es → AllByRecursion (λ (e : ℕ × ℕ). e.0 < opened.txn) es
      → Holds new (es ++ (opened.txn, s) ∷ []) (opened ∷ in_slots old es)
  at_end [] are below = record {
    are = (record { open_txn = opened; held = u.changed; number = refl; below = tt; apart = tt }, tt);
    view = rw u.changed refl;
  }
  at_end (e ∷ es) are below =
      let differs = occupied e.1 are.0.open_txn are.0.held in
      let rest = at_end es are.1 below.1 in
      record {
        are = (
          record {
            open_txn = are.0.open_txn;
            held = u.others e.1 differs ∙ are.0.held;
            number = are.0.number;
            below = all_appended _ es _ are.0.below (below.0, tt);
            apart = all_appended _ es _ are.0.apart (λ h. differs (sym h), tt);
          },
          rest.are,
        );
        view = rw (rest.view, u.others e.1 differs) refl;
      }

-- the newest transaction is added, where there may have been more room made
pub adds : (opened : OpenTxn) (s : ℕ) (old wide new : Slab OpenTxn) (es : List (ℕ × ℕ)) (os : List OpenTxn)
    → AreSlots old es → in_slots old es ≡ os
    → wide ≡ record old { capacity = wide.capacity } → get wide s ≡ None → Updates wide new s (Some opened)
    → AreBelow opened.txn os → Holds new (es ++ (opened.txn, s) ∷ []) (opened ∷ os)
adds opened s old wide new es os are view same vacant updates below =
    let kept = same_slots old wide es same are in
    let was : in_slots wide es ≡ os = kept.view ∙ view in
    let last = entries_below opened.txn wide es kept.are (subst (AreBelow opened.txn) (sym was) below) in
    let h = at_end wide new s opened vacant updates es kept.are last in
    record { are = h.are; view = h.view ∙ ap (λ rest. opened ∷ rest) was }
