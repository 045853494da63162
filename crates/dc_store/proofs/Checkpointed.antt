-- What a checkpoint reaches: all leaves and their pages have its number.
use Rattle.std.proofs.Common.{◌≡◌, ◌≢◌, ◌⊎◌, ℕ, ◌≤◌, List, [], ◌∷◌, Some, None, map, refl, sym, ap, ◌∙◌, subst, arith, inl, inr, eq-eqb, ne_eqb, le-ltb, lt-ltb}
use Rattle.std.specs.Prelude.{nat_le, Ok}
use Rattle.std.specs.List.{AllByRecursion}
use Rattle.std.specs.FinMap as table
use Rattle.std.proofs.lemmas.Bool.{cases_Bool, cases_eq, cases_lt}
use Rattle.dc_ab_lsn.specs.AbLsn.{AbLsnView, raised}
use Rattle.codec.specs.Images.{image_bytes, IsImage}
use Rattle.stable.specs.Usage.{Usage, called}
use Rattle.dc_leaf.specs.Leaf.{LeafView, raised_to}
use Rattle.dc_leaf.specs.Tiles.{parts_of}
use Rattle.dc_recovery.specs.Images.{image_of}
use Rattle.dc_recovery.specs.Laws.{IsCurrent}
use Rattle.dc_recovery.specs.Ready.{IsLow}
use Rattle.dc_recovery.specs.Shape.{part_in, shape}
use Rattle.dc_recovery.proofs.Ready.{ready_stays}
use Rattle.dc_store.specs.SystemView.{SystemView}
use Rattle.dc_store.specs.Changes.{forced, lowered, written_to, written_all}
use Rattle.dc_store.specs.Checked.{IsChecked}
use Rattle.dc_store.specs.Devices.{pages_of}
use Rattle.dc_store.specs.Gives.{CheckpointGives, HaveImages}
use Rattle.dc_store.specs.Kept.{IsRecoverable}
use Rattle.dc_store.proofs.Recoverable.{recoverable_lowered, recoverable_written_all, AreSo}
use Rattle.dc_store.proofs.Written.{pages_written}

-- ---- all leaves are raised

low_reaches : (v : AbLsnView) (l : ℕ) → l ≤ (raised v l).low
low_reaches v l =
    elim (cases_lt v.low l) [
      | inl less ↦ rw (lt-ltb v.low l less) (omega arith)
      | inr past ↦ rw (le-ltb v.low l past) past
    ]

lows_reach : (leaves : List LeafView) (l : ℕ) → AllByRecursion (IsLow l) (map (λ leaf. raised_to leaf l) leaves)
lows_reach [] l = tt
lows_reach (leaf ∷ leaves) l = (low_reaches leaf.ab l, lows_reach leaves l)

-- ---- and written

-- the number's page is as the log has it, with a low number this high
abbrev HasPage : ℕ → SystemView → ℕ → Type 0
HasPage l v id =
    (page : LeafView) × (pages_of v.pages id ≡ Some page) × IsCurrent v.log id page × IsLow l page

-- the leaves have the number, and so has the page of each, but for those that are still to be written
record Writes (l : ℕ) (v : SystemView) (left : List LeafView) : Type 0 where
  leaves : AllByRecursion (IsLow l) v.leaves
  current : AreSo v left
  lows : AllByRecursion (IsLow l) left
  pages : (id : ℕ) → part_in id (shape v.log) ≢ None → HasPage l v id ⊎ (part_in id (parts_of left) ≢ None)

page_written : (v : SystemView) (leaf : LeafView) (usage : Usage) (left : List LeafView) (l : ℕ)
    → IsImage (image_of leaf) → Writes l v (leaf ∷ left)
    → Writes l (record v {
      pages = table.insert v.pages leaf.id (image_bytes (image_of leaf));
      page_usage = usage;
    }) left
page_written v leaf usage left l fits w = record {
  leaves = w.leaves;
  current = w.current.1;
  lows = w.lows.1;
  pages = λ id there.
      let new = pages_written v.pages leaf fits id in
      elim (cases_eq id leaf.id) [
        | inl e ↦
            inl (
              leaf,
              new ∙ rw (eq-eqb id leaf.id e) refl,
              subst (λ (n : ℕ). IsCurrent v.log n leaf) (sym e) w.current.0,
              w.lows.0,
            )
        | inr apart ↦
            elim (w.pages id there) [
              | inl has ↦ inl (has.0, new ∙ rw (ne_eqb id leaf.id apart) has.1, has.2, has.3)
              | inr later ↦ inr (rw (ne_eqb leaf.id id (λ e. apart (sym e))) at later)
            ]
      ];
}

leaf_written : (v : SystemView) (leaf : LeafView) (left : List LeafView) (l : ℕ) → IsImage (image_of leaf)
    → Writes l v (leaf ∷ left) → Writes l (written_to v leaf) left
leaf_written v leaf left l fits w =
    elim (cases_Bool (nat_le leaf.last v.stable)) [
      | inl stable ↦ rw stable (page_written v leaf (called v.page_usage) left l fits w)
      | inr young ↦
          rw young (page_written (forced v) leaf (called v.page_usage) left l fits
          (record { leaves = w.leaves; current = w.current; lows = w.lows; pages = w.pages }))
    ]

all_written : (v : SystemView) (left : List LeafView) (l : ℕ) → HaveImages left → Writes l v left
    → Writes l (written_all v left) []
all_written v [] l fit w = w
all_written v (leaf ∷ left) l fit w =
    all_written (written_to v leaf) left l fit.1 (leaf_written v leaf left l fit.0 w)

-- once all leaves are raised and written the number is checked
pub checkpoint_reaches : (old : SystemView) (l known : ℕ) (new : SystemView) → IsRecoverable old
    → CheckpointGives old l known (Ok tt) new → IsChecked l new
checkpoint_reaches old l known new h gives =
    let start : SystemView = lowered old l in
    let raised : IsRecoverable start = recoverable_lowered old l h in
    let end : SystemView = written_all start start.leaves in
    let low : AllByRecursion (IsLow l) start.leaves = lows_reach old.leaves l in
    let good : IsRecoverable end = recoverable_written_all start start.leaves raised gives.fit raised.current.each in
    let all : Writes l end [] =
    all_written start start.leaves l gives.fit (record {
      leaves = low;
      current = raised.current.each;
      lows = low;
      pages = λ id there. inr (λ none. there (ap (part_in id) (sym raised.current.parts) ∙ none));
    }) in
    subst (IsChecked l) (sym gives.after) (record {
      leaves = all.leaves;
      ready =
          (ready_stays (IsLow l)).written_all (pages_of end.pages) end.log end.stable good.legal good.fit
          (λ id there. elim (all.pages id there) [
            | inl has ↦ has
            | inr none ↦ absurd (none refl)
          ]);
    })
