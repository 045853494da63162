-- Each leaf that is recovered has its number, and holds what every leaf does.
use Rattle.std.proofs.Common.{◌≡◌, ℕ, ◌+◌, ◌<◌, ◌^◌, List, [], ◌∷◌, length, Option, Some, None, refl, sym, ap, ◌∙◌, subst, inl, inr, arith}
use Rattle.std.specs.Prelude.{nat_lt}
use Rattle.std.specs.FinMap as table
use Rattle.std.proofs.lemmas.Bool.{cases_Bool, cases_eq}
use Rattle.codec.specs.declared.image.LeafImage.{LeafImage}
use Rattle.codec.specs.Images.{IsImage}
use Rattle.codec.specs.Reading.{◌>>=◌}
use Rattle.codec.specs.declared.dc_record.DcRecord.{DcRecord}
use Rattle.codec.specs.declared.dc_record.DcRecord.TheVariants.{Accept, Split, Merge}
use Rattle.dc_tree.proofs.Kept.{kept_lower}
use Rattle.dc_leaf.specs.Leaf.{LeafView, IsLeaf, first}
use Rattle.record_key.specs.Table.{Bytes}
use Rattle.stable.specs.PagesState.{Pages}
use Rattle.dc_recovery.specs.Images.{leaf_of, image_of, HasLeafNumbers}
use Rattle.dc_recovery.specs.Recovery.{recovered, cut_again, merged_again}
use Rattle.dc_recovery.proofs.Images.{images_keep_leaves, numbers_stay}
use Rattle.dc_recovery.proofs.Recovering.{Source, at_first, at_new, at_cut, by_split, at_gone, at_merged, by_merge}
use Rattle.dc_store.specs.Devices.{AreRecords, pages_of, page_in}
use Rattle.dc_store.specs.Recovering.{AreOwnPages}
use Rattle.dc_store.proofs.Fresh.{first_kept}
use Rattle.dc_store.proofs.PageReading.{image_found}

-- a leaf of this number
pub record IsGood (id : ℕ) (leaf : LeafView) : Type 0 where
  pub own : leaf.id ≡ id
  pub kept : IsLeaf leaf
  pub numbers : HasLeafNumbers leaf

first_good : IsGood 1 first
first_good = record {
  own = refl;
  kept = first_kept;
  numbers = numbers_stay.first;
}

image_good : (image : LeafImage) (id : ℕ) → image.id ≡ id → IsImage image → IsGood id (leaf_of image)
image_good image id own fits =
    let both = images_keep_leaves.spelled image fits in record { own = own; kept = both.0; numbers = both.1 }

page_good : (pages : Pages) (count id : ℕ) (leaf : LeafView) (page : Option (List ℕ)) → AreOwnPages pages count
    → table.get pages id ≡ page → pages_of pages id ≡ Some leaf → IsGood id leaf
page_good pages count id leaf None own is h =
    let none : pages_of pages id ≡ None = ap (λ (o : Option (List ℕ)). o >>= page_in) is in
    let bad : None ≡ Some leaf = sym none ∙ h in
    absurd (cc)
page_good pages count id leaf (Some bytes) own is h =
    let page = own id bytes is in
    let both : Some page.0 ≡ Some leaf = sym (image_found pages id bytes page.0 is page.1) ∙ h in
    let same : page.0 ≡ leaf = cc in
    let numbers : HasLeafNumbers page.0 =
    subst HasLeafNumbers (images_keep_leaves.leaf page.0)
    (images_keep_leaves.spelled (image_of page.0) page.1.image).1 in
    subst (IsGood id) same (record { own = page.2; kept = page.1.kept; numbers = numbers })

source_good : (pages : Pages) (count id : ℕ) (other leaf : LeafView) → AreOwnPages pages count
    → Source (pages_of pages id) other leaf → IsGood id other → IsGood id leaf
source_good pages count id other leaf own source good =
    elim source.from [
      | inl page ↦ page_good pages count id leaf (table.get pages id) own refl page
      | inr logged ↦ subst (IsGood id) logged.1 good
    ]

cut_good : (id d : ℕ) (cut : Bytes) (leaf : LeafView) → d < 2 ^ 48 → IsGood id leaf → IsGood id (cut_again d cut leaf)
cut_good id d cut leaf number good =
    elim (cases_Bool (nat_lt leaf.last d)) [
      | inl older ↦
          rw older (record {
            own = good.own;
            kept = kept_lower leaf cut d good.kept;
            numbers = numbers_stay.lower leaf cut d good.numbers number;
          })
      | inr younger ↦ rw younger good
    ]

merge_good : (id d : ℕ) (merged leaf : LeafView) → IsGood id merged → IsGood id leaf
    → IsGood id (merged_again d merged leaf)
merge_good id d merged leaf new good =
    elim (cases_Bool (nat_lt leaf.last d)) [
      | inl older ↦ rw older new
      | inr younger ↦ rw younger good
    ]

pub recovered_good : (pages : Pages) (count : ℕ) (log : List DcRecord) (id : ℕ) (leaf : LeafView)
    → AreOwnPages pages count → AreRecords log → length log < 2 ^ 48
    → recovered (pages_of pages) log id ≡ Some leaf → IsGood id leaf
recovered_good pages count [] id leaf own records numbered h =
    let at = at_first (pages_of pages) id leaf h in
    source_good pages count id first leaf own at.1 (subst (λ (n : ℕ). IsGood n first) (sym at.0) first_good)
recovered_good pages count (Accept session ∷ log) id leaf own records numbered h =
    recovered_good pages count log id leaf own records.1 (omega (arith, numbered)) h
recovered_good pages count (Split left cut right ∷ log) id leaf own records numbered h =
    elim (cases_eq id right.id) [
      | inl e ↦
          source_good pages count id (leaf_of right) leaf own
          (at_new (pages_of pages) log left id cut right leaf e h)
          (image_good right id (sym e) records.0.0.1.1)
      | inr other ↦
          elim (cases_eq id left) [
            | inl e ↦
                let was = at_cut (pages_of pages) log left id cut right leaf other e h in
                subst (IsGood id) was.now
                (cut_good id (length log + 1) cut was.was (omega (arith, numbered))
                (recovered_good pages count log id was.was own records.1 (omega (arith, numbered)) was.there))
            | inr apart ↦
                recovered_good pages count log id leaf own records.1 (omega (arith, numbered))
                (by_split (pages_of pages) log left id cut right leaf other apart h)
          ]
    ]
recovered_good pages count (Merge left right merged ∷ log) id leaf own records numbered h =
    elim (cases_eq id right) [
      | inl e ↦ absurd (at_gone (pages_of pages) log left right id merged leaf e h)
      | inr other ↦
          elim (cases_eq id left) [
            | inl e ↦
                let was = at_merged (pages_of pages) log left right id merged leaf other e h in
                subst (IsGood id) was.now
                (merge_good id (length log + 1) (leaf_of merged) was.was
                (image_good merged id (records.0.0.1 ∙ sym e) records.0.0.0.1.1)
                (recovered_good pages count log id was.was own records.1 (omega (arith, numbered)) was.there))
            | inr apart ↦
                recovered_good pages count log id leaf own records.1 (omega (arith, numbered))
                (by_merge (pages_of pages) log left right id merged leaf other apart h)
          ]
    ]
