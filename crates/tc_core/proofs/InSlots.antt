-- A transaction is found through the slot of its number.
use Rattle.std.proofs.Common.{◌≡◌, ◌≢◌, ℕ, zero, suc, ◌<◌, ◌==◌, Bool, true, false, List, [], ◌∷◌, ◌++◌, All, slice_get, slice_index_or, IsSomeAnd, Option, Some, None, refl, ◌∙◌, subst, arith}
use Rattle.std.specs.Prelude.{if◌then◌else◌}
use Rattle.std.specs.List.{AllByRecursion}
use Rattle.std.proofs.lemmas.List.Elements.{recursion_from_All}
use Rattle.slab.specs.Slab.{Slab, get}
use Rattle.record_key.proofs.Lists.{all_from}
use Rattle.tc_core.specs.declared.open_txn.OpenTxn.{OpenTxn}
use Rattle.tc_core.specs.OpenTxns.{find, unless}
use Rattle.tc_core.specs.Slots.{listed, in_slots, AreSlots}
use Rattle.tc_core.proofs.Finding.{find_here, find_there}
use Rattle.tc_core.proofs.Slots.{numbers}

pub unless_none : (o : Option OpenTxn) → unless o None ≡ o
unless_none None = refl
unless_none (Some o) = refl

find_in_both : (t : ℕ) (xs ys : List OpenTxn) → find t (xs ++ ys) ≡ unless (find t xs) (find t ys)
find_in_both t [] ys = refl
find_in_both t (x ∷ xs) ys = pick (x.txn == t) (find_in_both t xs ys)
  where
    pick : (b : Bool) → find t (xs ++ ys) ≡ unless (find t xs) (find t ys)
        → (if b then Some x else find t (xs ++ ys)) ≡ unless (if b then Some x else find t xs) (find t ys)
    pick true rest = refl
    pick false rest = rest

none_found : (t : ℕ) (os : List OpenTxn) → AllByRecursion (λ (o : OpenTxn). o.txn ≢ t) os → find t os ≡ None
none_found t [] apart = refl
none_found t (o ∷ os) apart = find_there o os t apart.0 ∙ none_found t os apart.1

-- what holds of all slots holds of each
pub all_at : (P : ℕ × ℕ → Type 0) (es : List (ℕ × ℕ)) (i : ℕ) (e : ℕ × ℕ) → AllByRecursion P es
    → slice_get es i ≡ Some e → P e
all_at P [] i e all place = absurd (cc)
all_at P (d ∷ es) zero e all place = let same : d ≡ e = cc in subst P same all.0
all_at P (d ∷ es) (suc i) e all place = all_at P es i e all.1 place

-- the slot at the place of a number
pub slot_at : (es : List (ℕ × ℕ)) (i t : ℕ) → IsSomeAnd (slice_get es i) (λ (e : ℕ × ℕ). e.0 ≡ t) → (e : ℕ × ℕ)
    → e ≡ slice_index_or es i e → slice_get es i ≡ Some (t, e.1)
slot_at [] i t found e is = absurd found
slot_at (d ∷ es) zero t found e is = rw (is, ← found) refl
slot_at (d ∷ es) (suc i) t found e is = slot_at es i t found e is

module _ (slab : Slab OpenTxn) where
  -- the transactions after a slot have other numbers
  pub after_slot : (d : ℕ × ℕ) (es : List (ℕ × ℕ)) → AreSlots slab (d ∷ es)
      → AllByRecursion (λ (o : OpenTxn). o.txn ≢ d.0) (in_slots slab es)
  after_slot d es are =
      numbers (λ n. n ≢ d.0) slab es are.1
      (all_from (λ (e : ℕ × ℕ). d.0 < e.0) _ (λ e less same. omega (arith, less, same)) es are.0.below)

  -- the transaction of an earlier slot has another number
  pub before_slot : (d : ℕ × ℕ) (es : List (ℕ × ℕ)) (i : ℕ) (e : ℕ × ℕ) (are : AreSlots slab (d ∷ es))
      → slice_get es i ≡ Some e → are.0.open_txn.txn ≢ e.0
  before_slot d es i e are place same =
      let less : d.0 < e.0 = all_at (λ (x : ℕ × ℕ). d.0 < x.0) es i e are.0.below place in
      omega (arith, less, same, are.0.number)

  found : (es : List (ℕ × ℕ)) (i : ℕ) (e : ℕ × ℕ) → AreSlots slab es → slice_get es i ≡ Some e
      → find e.0 (in_slots slab es) ≡ get slab e.1
  found [] i e are place = absurd (cc)
  found (d ∷ es) zero e are place =
      let same : d ≡ e = cc in
      let here : find d.0 (in_slots slab (d ∷ es)) ≡ get slab d.1 =
      find_in_both d.0 (in_slots slab es) (listed (get slab d.1))
      ∙ rw (none_found d.0 (in_slots slab es) (after_slot d es are), are.0.held)
      (find_here are.0.open_txn [] d.0 are.0.number) in
      subst (λ (x : ℕ × ℕ). find x.0 (in_slots slab (d ∷ es)) ≡ get slab x.1) same here
  found (d ∷ es) (suc i) e are place =
      find_in_both e.0 (in_slots slab es) (listed (get slab d.1))
      ∙ rw (are.0.held, find_there are.0.open_txn [] e.0 (before_slot d es i e are place))
      (unless_none (find e.0 (in_slots slab es)) ∙ found es i e are.1 place)

  module _ (t : ℕ) (es : List (ℕ × ℕ)) (os : List OpenTxn) (are : AreSlots slab es) (view : in_slots slab es ≡ os) where
    pub found_at : (i s : ℕ) → slice_get es i ≡ Some (t, s) → find t os ≡ get slab s
    found_at i s place = rw (← view) (found es i (t, s) are place)

    pub not_found : All (λ (e : ℕ × ℕ). e.0 ≢ t) es → find t os ≡ None
    not_found apart =
        rw (← view) (none_found t (in_slots slab es)
        (numbers (λ n. n ≢ t) slab es are (recursion_from_All (λ (e : ℕ × ℕ). e.0 ≢ t) es apart)))
