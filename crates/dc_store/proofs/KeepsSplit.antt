-- A leaf is split.
use Rattle.std.proofs.Common.{◌≡◌, ℕ, ◌<◌, true, List, ◌∷◌, length, sym, ap, ◌∙◌, subst, arith}
use Rattle.std.specs.List.{AllByRecursion}
use Rattle.codec.specs.declared.dc_record.DcRecord.TheVariants as is
use Rattle.codec.specs.declared.image.LeafImage.{LeafImage}
use Rattle.codec.specs.DcRecords.{FitsFrame, IsOrderedDcRecord}
use Rattle.dc_leaf.specs.Leaf.{LeafView, IsLeaf}
use Rattle.dc_leaf.specs.Parting.{upper_of}
use Rattle.dc_tree.specs.declared.parting.Split.{Split}
use Rattle.dc_tree.specs.Parting.{middle, may_split_at, split_at, IsSplitOf}
use Rattle.dc_tree.proofs.Kept.{kept_upper}
use Rattle.dc_tree.proofs.Splitting.{all_split}
use Rattle.dc_tree.proofs.Stays.{split_stays}
use Rattle.dc_recovery.specs.Images.{HasLeafNumbers, image_of}
use Rattle.dc_recovery.specs.Shape.{named}
use Rattle.dc_recovery.specs.Leaves.{split_of}
use Rattle.dc_recovery.proofs.Images.{images_keep_leaves, numbers_stay}
use Rattle.dc_store.specs.SystemView.{SystemView}
use Rattle.dc_store.specs.Changes.{leaf_in, next_id, next_number, split_to}
use Rattle.dc_store.specs.Kept.{IsSystem}
use Rattle.dc_store.proofs.Amid.{IsSplitAmid, split_amid, AllAmid, all_amid}
use Rattle.dc_store.proofs.Keeps.{keeps_usage}

-- a leaf that may be split, where there are numbers for the record and the new leaf
pub record Splittable (v : SystemView) (p : ℕ) : Type 0 where
  pub kept : IsSystem v
  pub may : may_split_at v.leaves p ≡ true
  pub room : length v.log < 281474976710655
  pub more : named v.log < 281474976710655

module _ (v : SystemView) (p : ℕ) (s : Splittable v p) where
  abbrev leaf : LeafView
  leaf = leaf_in v p

  abbrev cut : List ℕ
  cut = middle leaf

  abbrev upper : LeafView
  upper = upper_of leaf cut (next_id v) (next_number v)

  amid : IsSplitAmid v.leaves p
  amid = split_amid p v.leaves s.may

  has : (P : LeafView → Type 0) → AllByRecursion P v.leaves → AllAmid P amid.before leaf amid.after
  has P all = all_amid P amid.before leaf amid.after (subst (AllByRecursion P) amid.all all)

  kept : IsLeaf leaf
  kept = (has IsLeaf s.kept.leaves.each).here

  numbered : HasLeafNumbers leaf
  numbered = (has HasLeafNumbers s.kept.numbers).here

  numbers_of_upper : HasLeafNumbers upper
  numbers_of_upper =
      numbers_stay.upper leaf cut (next_id v) (next_number v) numbered (omega (arith, s.more)) (omega (arith, s.room))

  ordered : IsOrderedDcRecord (split_of v.log leaf cut)
  ordered = (
    numbered.id,
    images_keep_leaves.ordered upper (kept_upper leaf cut (next_id v) (next_number v) kept) numbers_of_upper,
  )

  keeps_split : FitsFrame (split_of v.log leaf cut) → IsSystem (split_to v p)
  keeps_split fits = record {
    leaves = (split_stays v.leaves p (next_id v) (next_number v) s.kept.leaves s.may).leaves;
    numbers = all_split HasLeafNumbers (next_id v) (next_number v) (λ other kept may has. (
      numbers_stay.lower other (middle other) (next_number v) has (omega (arith, s.room)),
      numbers_stay.upper other (middle other) (next_id v) (next_number v) has (omega (arith, s.more))
          (omega (arith, s.room)),
    )) v.leaves p s.kept.leaves.each s.may s.kept.numbers;
    records = (fits, s.kept.records);
    numbered = omega (arith, s.room);
    named = omega (arith, s.more);
    pages = s.kept.pages;
  }

-- ---- a split as it is planned, and then done

-- the split is that of the leaf, with the next numbers, and this is the image that is logged
pub record IsPlanned (v : SystemView) (p id d : ℕ) (split : Split) (image : LeafImage) : Type 0 where
  pub may : Splittable v p
  pub half : IsSplitOf (leaf_in v p) id d split
  pub new : id ≡ next_id v
  pub last : d ≡ next_number v
  pub logged : image ≡ image_of split.right.value

module _ (v : SystemView) (p id d : ℕ) (split : Split) (image : LeafImage) (h : IsPlanned v p id d split image) where
  half_is : split.right.value ≡ upper_of (leaf_in v p) (middle (leaf_in v p)) (next_id v) (next_number v)
  half_is = h.half.right ∙ (λ i. upper_of (leaf_in v p) (middle (leaf_in v p)) (h.new i) (h.last i))

  spelled : is.Split split.left split.cut image ≡ split_of v.log (leaf_in v p) (middle (leaf_in v p))
  spelled =
      let same : image ≡ image_of (upper_of (leaf_in v p) (middle (leaf_in v p)) (next_id v) (next_number v)) =
      h.logged ∙ ap image_of half_is in
      λ i. is.Split (h.half.left i) (h.half.cut i) (same i)

  -- the record may be spelled
  pub planned_ordered : IsOrderedDcRecord (is.Split split.left split.cut image)
  planned_ordered = subst IsOrderedDcRecord (sym spelled) (ordered v p h.may)

  -- and then the leaves are split
  pub split_done : (new : SystemView) → FitsFrame (is.Split split.left split.cut image)
      → new.leaves ≡ split_at p split.right.value.id split.right.value.last v.leaves
      → new.log ≡ is.Split split.left split.cut image ∷ v.log → new.stable ≡ v.stable → new.pages ≡ v.pages
      → IsSystem new
  split_done new fits leaves log stable pages =
      let own : split.right.value.id ≡ next_id v = ap (λ (l : LeafView). l.id) half_is in
      let by : split.right.value.last ≡ next_number v = ap (λ (l : LeafView). l.last) half_is in
      let parted : new.leaves ≡ (split_to v p).leaves = leaves ∙ (λ i. split_at p (own i) (by i) v.leaves) in
      let logged : new.log ≡ (split_to v p).log = log ∙ (λ i. spelled i ∷ v.log) in
      let same : new ≡ record (split_to v p) {
        log_usage = new.log_usage;
        page_usage = new.page_usage;
      } = λ i. record {
        leaves = parted i;
        log = logged i;
        stable = stable i;
        pages = pages i;
        log_usage = new.log_usage;
        page_usage = new.page_usage;
      } in
      subst IsSystem (sym same)
      (keeps_usage (split_to v p) new.log_usage new.page_usage (keeps_split v p h.may (subst FitsFrame spelled fits)))
