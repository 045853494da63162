-- Leaves that are written to their pages.
use Rattle.std.proofs.Common.{◌≡◌, ℕ, zero, suc, ◌<◌, ◌==◌, Bool, cond, List, [], ◌∷◌, length, get_or, Some, refl, sym, ap, ◌∙◌, subst, arith, inl, inr}
use Rattle.std.specs.Prelude.{nat_le}
use Rattle.std.specs.List.{AllByRecursion}
use Rattle.std.specs.FinMap as table
use Rattle.std.specs.Cmp.{nat_cmp_total, unsigned_tied}
use Rattle.std.proofs.lemmas.Bool.{cases_Bool}
use Rattle.codec.specs.Images.{image_bytes, IsOrderedImage, IsImage}
use Rattle.stable.specs.PagesState.{Pages}
use Rattle.stable.specs.Usage.{Usage, called}
use Rattle.dc_leaf.specs.Leaf.{LeafView, IsLeaf, first}
use Rattle.dc_recovery.specs.Images.{image_of, HasLeafNumbers}
use Rattle.dc_recovery.specs.Recovery.{written}
use Rattle.dc_recovery.proofs.Images.{images_keep_leaves}
use Rattle.dc_store.specs.Changes.{covered, forced, written_to}
use Rattle.dc_store.specs.Devices.{pages_of}
use Rattle.dc_store.specs.Gives.{FailsWriting}
use Rattle.dc_store.specs.Kept.{IsSystem}
use Rattle.dc_store.specs.LogView.{ChangeLogView}
use Rattle.dc_store.specs.Seen.{seen}
use Rattle.dc_store.specs.SystemView.{SystemView}
use Rattle.dc_store.proofs.Keeps.{keeps_forced, keeps_usage}
use Rattle.dc_store.proofs.PageReading.{page_again}

-- what is read of a page where one was written
get_written : (pages : Pages) (id : ℕ) (bytes : List ℕ) (q : ℕ)
    → table.get (table.insert pages id bytes) q ≡ cond (q == id) (Some bytes) (table.get pages q)
get_written pages id bytes q =
    table.get-insert nat_cmp_total pages id bytes q
    ∙ ap (λ (b : Bool). cond b (Some bytes) (table.get pages q)) (unsigned_tied q id)

-- the leaves of the pages are those of before, with the leaf that was written
pub pages_written : (pages : Pages) (leaf : LeafView) → IsImage (image_of leaf) → (id : ℕ)
    → pages_of (table.insert pages leaf.id (image_bytes (image_of leaf))) id ≡ written (pages_of pages) leaf.id leaf id
pages_written pages leaf fits id =
    let bytes : List ℕ = image_bytes (image_of leaf) in
    let new : Pages = table.insert pages leaf.id bytes in
    let got = get_written pages leaf.id bytes id in
    elim (cases_Bool (id == leaf.id)) [
      | inl here ↦
          let found : table.get new id ≡ Some bytes = rw here at got in
          rw (found, here) (page_again leaf fits)
      | inr other ↦
          let same : table.get new id ≡ table.get pages id = rw other at got in
          rw (same, other) refl
    ]

-- a leaf is written
keeps_page : (v : SystemView) (leaf : LeafView) (usage : Usage) → IsSystem v → IsLeaf leaf → IsImage (image_of leaf)
    → IsSystem (record v { pages = table.insert v.pages leaf.id (image_bytes (image_of leaf)); page_usage = usage })
keeps_page v leaf usage h kept fits = record {
  leaves = h.leaves;
  numbers = h.numbers;
  records = h.records;
  numbered = h.numbered;
  named = h.named;
  pages = λ id bytes is.
      let image : List ℕ = image_bytes (image_of leaf) in
      let got = get_written v.pages leaf.id image id in
      elim (cases_Bool (id == leaf.id)) [
        | inl here ↦
            let found : table.get (table.insert v.pages leaf.id image) id ≡ Some image = rw here at got in
            let same : Some image ≡ Some bytes = sym found ∙ is in
            (leaf, record { kept = kept; image = fits; spelled = cc })
        | inr other ↦ h.pages id bytes (sym (rw other at got) ∙ is)
      ];
}

-- a leaf is written, once the log is forced where it has to be
pub keeps_written : (v : SystemView) (leaf : LeafView) → IsSystem v → IsLeaf leaf → IsImage (image_of leaf)
    → IsSystem (written_to v leaf)
keeps_written v leaf h kept fits =
    elim (cases_Bool (nat_le leaf.last v.stable)) [
      | inl stable ↦ rw stable (keeps_page v leaf (called v.page_usage) h kept fits)
      | inr young ↦ rw young (keeps_page (forced v) leaf (called v.page_usage) (keeps_forced v h) kept fits)
    ]

-- the log is forced where it has to be
pub keeps_covered : (v : SystemView) (leaf : LeafView) → IsSystem v → IsSystem (covered v leaf)
keeps_covered v leaf h =
    elim (cases_Bool (nat_le leaf.last v.stable)) [
      | inl stable ↦ rw stable h
      | inr young ↦ rw young (keeps_forced v h)
    ]

-- what each leaf has, the one at a place has
pub at_place : (P : LeafView → Type 0) (leaves : List LeafView) (p : ℕ) → p < length leaves → AllByRecursion P leaves
    → P (get_or leaves p first)
at_place P [] p lt all = absurd (omega (arith, lt))
at_place P (leaf ∷ leaves) zero lt all = all.0
at_place P (leaf ∷ leaves) (suc p) lt all = at_place P leaves p (omega (arith, lt)) all.1

-- a device failed in a write
pub keeps_failed : (v : SystemView) (leaf : LeafView) (new : SystemView) → IsSystem v → FailsWriting v leaf new
    → IsSystem new
keeps_failed v leaf new h (inl force) = subst IsSystem (sym force.1.0) (keeps_usage v _ v.page_usage h)
keeps_failed v leaf new h (inr write) =
    subst IsSystem (sym write.0) (keeps_usage (covered v leaf) _ _ (keeps_covered v leaf h))

-- room that was made in the pages before makes no difference to a failure
pub fails_alike : (leaves : List LeafView) (log : ChangeLogView) (pages before : Pages) (usage used : Usage)
    (leaf there : LeafView) (new : SystemView) → before ≡ pages → used ≡ usage → leaf ≡ there
    → FailsWriting (seen leaves log before used) leaf new → FailsWriting (seen leaves log pages usage) there new
fails_alike leaves log pages before usage used leaf there new same unused is fails =
    subst (λ (l : LeafView). FailsWriting (seen leaves log pages usage) l new) is
    (subst (λ (v : SystemView). FailsWriting v leaf new) (λ i. seen leaves log (same i) (unused i)) fails)

-- the leaf at a place is written
pub keeps_written_at : (v : SystemView) (p : ℕ) → IsSystem v → p < length v.leaves
    → IsImage (image_of (get_or v.leaves p first))
    → IsSystem (written_to v (get_or v.leaves p first))
keeps_written_at v p h there fits =
    keeps_written v (get_or v.leaves p first) h (at_place IsLeaf v.leaves p there h.leaves.each) fits

-- the image of each leaf is in order
pub ordered_images : (leaves : List LeafView) → AllByRecursion IsLeaf leaves → AllByRecursion HasLeafNumbers leaves
    → AllByRecursion (λ (leaf : LeafView). IsOrderedImage (image_of leaf)) leaves
ordered_images [] each numbers = tt
ordered_images (leaf ∷ leaves) each numbers =
    (images_keep_leaves.ordered leaf each.0 numbers.0, ordered_images leaves each.1 numbers.1)
