-- What holds of every slot, and what a change of another slot leaves.
use Rattle.std.proofs.Common.{◌≡◌, ℕ, List, [], ◌∷◌, length, refl, sym, ap, ◌∙◌, subst, arith}
use Rattle.std.specs.List.{AllByRecursion}
use Rattle.std.proofs.lemmas.List.{length-append}
use Rattle.record_key.proofs.Lists.{all_appended}
use Rattle.slab.specs.Slab.{Slab, get, slab_len}
use Rattle.tc_core.specs.declared.open_txn.OpenTxn.{OpenTxn}
use Rattle.tc_core.specs.Slots.{listed, in_slots, AreSlots, AreAllSlots}

-- the slots, and the transactions in them
pub record Holds (slab : Slab OpenTxn) (es : List (ℕ × ℕ)) (os : List OpenTxn) : Type 0 where
  pub are : AreSlots slab es
  pub view : in_slots slab es ≡ os

-- the transactions have the entries' numbers
pub numbers : (P : ℕ → Type 0) (slab : Slab OpenTxn) (es : List (ℕ × ℕ)) → AreSlots slab es
    → AllByRecursion (λ (e : ℕ × ℕ). P e.0) es
    → AllByRecursion (λ (o : OpenTxn). P o.txn) (in_slots slab es)
numbers P slab [] are all = tt
numbers P slab (e ∷ es) are all =
    all_appended (λ (o : OpenTxn). P o.txn) (in_slots slab es) (listed (get slab e.1)) (numbers P slab es are.1 all.1)
    (rw are.0.held (subst P (sym are.0.number) all.0, tt))

pub as_many : (slab : Slab OpenTxn) (es : List (ℕ × ℕ)) → AreSlots slab es → length (in_slots slab es) ≡ length es
as_many slab [] are = refl
as_many slab (e ∷ es) are =
    let one : length (listed (get slab e.1)) ≡ 1 = ap (λ o. length (listed o)) are.0.held in
    omega (arith, length-append (in_slots slab es) (listed (get slab e.1)), as_many slab es are.1, one)

module _ (old new : Slab OpenTxn) (Keeps : ℕ → Type 0) (same : (k : ℕ) → Keeps k → get new k ≡ get old k) where
  pub kept : (es : List (ℕ × ℕ)) → AllByRecursion (λ (d : ℕ × ℕ). Keeps d.1) es → AreSlots old es
      → Holds new es (in_slots old es)
  kept [] keeps are = record { are = tt; view = refl }
  kept (e ∷ es) keeps are =
      let rest = kept es keeps.1 are.1 in
      record {
        are = (
          record {
            open_txn = are.0.open_txn;
            held = same e.1 keeps.0 ∙ are.0.held;
            number = are.0.number;
            below = are.0.below;
            apart = are.0.apart;
          },
          rest.are,
        );
        view = rw (rest.view, same e.1 keeps.0) refl;
      }

each_unit : (es : List (ℕ × ℕ)) → AllByRecursion (λ _. Unit {0}) es
each_unit [] = tt
each_unit (e ∷ es) = (tt, each_unit es)

-- the room in a slab doesn't matter
pub same_slots : (old new : Slab OpenTxn) (es : List (ℕ × ℕ)) → new ≡ record old { capacity = new.capacity }
    → AreSlots old es → Holds new es (in_slots old es)
same_slots old new es same are =
    kept old new (λ _. Unit {0}) (λ k _. ap (λ (slab : Slab OpenTxn). get slab k) same) es (each_unit es) are

pub wider : (old new : Slab OpenTxn) (es : List (ℕ × ℕ)) → new ≡ record old { capacity = new.capacity }
    → AreAllSlots old es → AreAllSlots new es
wider old new es same all = record {
  each = (same_slots old new es same all.each).are;
  as_many = ap (λ (slab : Slab OpenTxn). slab_len slab) same ∙ all.as_many;
}
