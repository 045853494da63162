-- The leaves in the places are those that are recovered, each once.
use Rattle.std.proofs.Common.{◌≡◌, ℕ, zero, suc, ◌+◌, ◌<◌, ◌≤◌, ◌^◌, List, [], ◌∷◌, length, Some, None, refl, sym, ap, ◌∙◌, subst, inl, inr, arith, eq-eqb, ne_eqb}
use Rattle.std.specs.List.{AllByRecursion}
use Rattle.std.proofs.lemmas.Bool.{cases_eq, le-leb}
use Rattle.dc_tree.specs.Lists.{leaves_in}
use Rattle.codec.specs.declared.dc_record.DcRecord.{DcRecord}
use Rattle.dc_leaf.specs.Leaf.{LeafView, IsLeaf}
use Rattle.stable.specs.PagesState.{Pages}
use Rattle.dc_recovery.specs.Images.{HasLeafNumbers}
use Rattle.dc_recovery.specs.Laws.{IsIn, IsArranged}
use Rattle.dc_recovery.specs.Ready.{AreReadable}
use Rattle.dc_recovery.specs.Recovery.{recovered}
use Rattle.dc_recovery.specs.Shape.{named}
use Rattle.dc_store.specs.Arranging.{count_of, HaveOwnNumbers, IsArrangement}
use Rattle.dc_store.specs.Devices.{AreRecords, pages_of}
use Rattle.dc_store.specs.Finding.{AreRecovered}
use Rattle.dc_store.specs.Recovering.{AreOwnPages}
use Rattle.dc_store.specs.Replaying.{HoldsPages, HoldsRecovered}
use Rattle.dc_store.specs.Shelf.{Slot, leaf_on, boxes_on}
use Rattle.dc_store.proofs.Goodness.{IsGood, recovered_good}
use Rattle.dc_store.proofs.Knowing.{known}

-- all records are done again, with a place for each number that they name
pub record IsGathered (pages : Pages) (log : List DcRecord) (slots : List Slot) : Type 0 where
  pub readable : AreReadable (pages_of pages) log
  pub records : AreRecords log
  pub numbered : length log < 2 ^ 48
  pub own : AreOwnPages pages (length log)
  pub count : length slots ≡ named log + 1
  pub held : HoldsRecovered pages log slots

-- the leaf stands in the place of some number
record IsOn (slots : List Slot) (leaf : LeafView) : Type 0 where
  pub id : ℕ
  pub within : id < length slots
  pub is : leaf_on slots id ≡ Some leaf

one_on : (slot : Slot) (slots : List Slot) (leaf : LeafView) → IsOn slots leaf → IsOn (slot ∷ slots) leaf
one_on slot slots leaf on = record { id = suc on.id; within = omega (arith, on.within); is = on.is }

in_place : (slots : List Slot) (leaf : LeafView) → IsIn leaf (leaves_in (boxes_on slots)) → IsOn slots leaf
in_place [] leaf at = absurd at
in_place (None ∷ slots) leaf at = one_on None slots leaf (in_place slots leaf at)
in_place (Some b ∷ slots) leaf (inl e) =
    record { id = 0; within = omega arith; is = ap (λ (l : LeafView). Some l) (sym e) }
in_place (Some b ∷ slots) leaf (inr at) = one_on (Some b) slots leaf (in_place slots leaf at)

is_found : (slots : List Slot) (id : ℕ) (leaf : LeafView) → leaf_on slots id ≡ Some leaf
    → IsIn leaf (leaves_in (boxes_on slots))
is_found [] zero leaf is = absurd (cc)
is_found [] (suc id) leaf is = absurd (cc)
is_found (None ∷ slots) zero leaf is = absurd (cc)
is_found (Some b ∷ slots) zero leaf is = inl (cc)
is_found (None ∷ slots) (suc id) leaf is = is_found slots id leaf is
is_found (Some b ∷ slots) (suc id) leaf is = inr (is_found slots id leaf is)

within_on : (slots : List Slot) (id : ℕ) (leaf : LeafView) → leaf_on slots id ≡ Some leaf → id < length slots
within_on [] zero leaf is = absurd (cc)
within_on [] (suc id) leaf is = absurd (cc)
within_on (slot ∷ slots) zero leaf is = omega arith
within_on (slot ∷ slots) (suc id) leaf is = omega (arith, within_on slots id leaf is)

-- a number stands at most once, and none below that of the first place
record IsCounted (slots : List Slot) (from id : ℕ) : Type 0 where
  pub none : id < from → count_of id (leaves_in (boxes_on slots)) ≡ 0
  pub once : count_of id (leaves_in (boxes_on slots)) ≤ 1

counted : (slots : List Slot) (from id : ℕ)
    → ((k : ℕ) (leaf : LeafView) → leaf_on slots k ≡ Some leaf → leaf.id ≡ from + k) → IsCounted slots from id
counted [] from id own = record { none = λ lt. refl; once = omega arith }
counted (None ∷ slots) from id own =
    let later = counted slots (from + 1) id (λ k leaf is. omega (arith, own (suc k) leaf is)) in
    record { none = λ lt. later.none (omega (arith, lt)); once = later.once }
counted (Some b ∷ slots) from id own =
    let later = counted slots (from + 1) id (λ k leaf is. omega (arith, own (suc k) leaf is)) in
    let here : b.value.id ≡ from + 0 = own 0 b.value refl in
    elim (cases_eq b.value.id id) [
      | inl e ↦
          let none : count_of id (leaves_in (boxes_on slots)) ≡ 0 = later.none (omega (arith, here, e)) in
          record {
            none = λ lt. absurd (omega (arith, lt, here, e));
            once = rw (eq-eqb b.value.id id e) (omega (arith, none));
          }
      | inr other ↦ record {
        none = λ lt. rw (ne_eqb b.value.id id other) (omega (arith, later.none (omega (arith, lt))));
        once = rw (ne_eqb b.value.id id other) (omega (arith, later.once));
      }
    ]

all_in : (P : LeafView → Type 0) (leaves : List LeafView) → ((leaf : LeafView) → IsIn leaf leaves → P leaf)
    → AllByRecursion P leaves
all_in P [] each = tt
all_in P (x ∷ xs) each = (each x (inl refl), all_in P xs (λ leaf at. each leaf (inr at)))

module _ (pages : Pages) (log : List DcRecord) (slots : List Slot) (g : IsGathered pages log slots) where
  here : (id : ℕ) (leaf : LeafView) → id < length slots → leaf_on slots id ≡ Some leaf
      → recovered (pages_of pages) log id ≡ Some leaf
  here id leaf within is =
      let low : id ≤ named log = omega (arith, within, g.count) in
      let held : leaf_on slots id ≡ recovered (pages_of pages) log id =
      rw (le-leb id (named log) low) at (g.held id within) in
      sym held ∙ is

  there : (id : ℕ) (leaf : LeafView) → recovered (pages_of pages) log id ≡ Some leaf
      → IsIn leaf (leaves_in (boxes_on slots))
  there id leaf is =
      let low : id ≤ named log = known (pages_of pages) log id leaf g.readable is in
      let held : leaf_on slots id ≡ recovered (pages_of pages) log id =
      rw (le-leb id (named log) low) at (g.held id (omega (arith, low, g.count))) in
      is_found slots id leaf (held ∙ is)

  good : (id : ℕ) (leaf : LeafView) → recovered (pages_of pages) log id ≡ Some leaf → IsGood id leaf
  good id leaf is = recovered_good pages (length log) log id leaf g.own g.records g.numbered is

  own_number : (leaf : LeafView) → IsIn leaf (leaves_in (boxes_on slots))
      → recovered (pages_of pages) log leaf.id ≡ Some leaf
  own_number leaf at =
      let on = in_place slots leaf at in
      let is = here on.id leaf on.within on.is in
      ap (recovered (pages_of pages) log) (good on.id leaf is).own ∙ is

  -- no two have one number
  pub gathered_apart : HaveOwnNumbers (leaves_in (boxes_on slots))
  gathered_apart id =
      (counted slots 0 id
      (λ k leaf is. (good k leaf (here k leaf (within_on slots k leaf is) is)).own ∙ omega arith)).once

  -- in a row that has all keys they are what is recovered
  pub gathered_row : (row : List LeafView) → IsArrangement (leaves_in (boxes_on slots)) row → AreRecovered pages log row
  gathered_row row is =
      let sound : (leaf : LeafView) → IsIn leaf row → recovered (pages_of pages) log leaf.id ≡ Some leaf =
      λ leaf at. own_number leaf (is.same.new_in leaf at) in
      record {
        own = g.own;
        arranged = record {
          tile = is.tile;
          sound = sound;
          whole = λ id leaf h. is.same.old_in leaf (there id leaf h);
        };
        leaves = record {
          each = all_in IsLeaf row (λ leaf at. (good leaf.id leaf (sound leaf at)).kept);
          tile = is.tile;
        };
        numbers = all_in HasLeafNumbers row (λ leaf at. (good leaf.id leaf (sound leaf at)).numbers);
      }

  -- where no row of them has all keys, what is recovered has none
  pub gathered_none : ((row : List LeafView) → IsArrangement (leaves_in (boxes_on slots)) row → ⊥)
      → (leaves : List LeafView) → IsArranged (pages_of pages) log leaves → ⊥
  gathered_none none leaves arranged = none leaves (record {
    same = record {
      old_in = λ leaf at. arranged.whole leaf.id leaf (own_number leaf at);
      new_in = λ leaf at. there leaf.id leaf (arranged.sound leaf at);
    };
    tile = arranged.tile;
  })

-- once the pages are read and the records done again
pub gathers : (pages : Pages) (log : List DcRecord) (old new : List Slot) (count n : ℕ) → AreRecords log
    → ((all : Pages) → AreReadable (pages_of all) log) → length log < 2 ^ 48 → AreOwnPages pages count
    → count ≡ length log → n ≡ named log + 1 → length new ≡ n → HoldsPages pages old
    → ((all : Pages) → HoldsPages all old → HoldsRecovered all log new) → IsGathered pages log new
gathers pages log old new count n records readable numbered own same next places held again = record {
  readable = readable pages;
  records = records;
  numbered = numbered;
  own = subst (AreOwnPages pages) same own;
  count = places ∙ next;
  held = again pages held;
}
