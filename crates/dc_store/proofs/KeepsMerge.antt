-- Two leaves are joined.
use Rattle.std.proofs.Common.{◌≡◌, ℕ, suc, ◌+◌, ◌<◌, true, List, ◌∷◌, length, get_or, refl, sym, ap, ◌∙◌, subst, arith, add-one}
use Rattle.std.specs.List.{AllByRecursion}
use Rattle.record_key.proofs.Lists.{all_appended}
use Rattle.codec.specs.declared.dc_record.DcRecord.TheVariants as is
use Rattle.codec.specs.declared.image.LeafImage.{LeafImage}
use Rattle.codec.specs.DcRecords.{FitsFrame, IsOrderedDcRecord}
use Rattle.dc_leaf.specs.Leaf.{LeafView, IsLeaf, first}
use Rattle.dc_leaf.specs.Parting.{joined_of}
use Rattle.dc_tree.specs.declared.parting.Merge.{Merge}
use Rattle.dc_tree.specs.Parting.{may_merge_at, merged_at, IsMergeOf}
use Rattle.dc_tree.proofs.Kept.{kept_joined}
use Rattle.dc_tree.proofs.Merging.{AreJoinable, joinable, pair_there}
use Rattle.dc_tree.proofs.Places.{merge_within}
use Rattle.dc_tree.proofs.Stays.{merged_stays}
use Rattle.dc_recovery.specs.Images.{HasLeafNumbers, image_of}
use Rattle.dc_recovery.specs.Leaves.{merge_of}
use Rattle.dc_recovery.proofs.Images.{images_keep_leaves, numbers_stay}
use Rattle.stable.specs.Usage.{called}
use Rattle.dc_store.specs.SystemView.{SystemView}
use Rattle.dc_store.specs.Changes.{leaf_in, next_number, merged_to}
use Rattle.dc_store.specs.Kept.{IsSystem}
use Rattle.dc_store.proofs.Amid.{IsMergedAmid, merged_amid, AllAmid, all_amid}
use Rattle.dc_store.proofs.Keeps.{keeps_usage}

-- two leaves that may be joined, where there is a number for the record
pub record Mergeable (v : SystemView) (p : ℕ) : Type 0 where
  pub kept : IsSystem v
  pub may : may_merge_at v.leaves p ≡ true
  pub room : length v.log < 281474976710655

module _ (v : SystemView) (p : ℕ) (m : Mergeable v p) where
  abbrev left : LeafView
  left = leaf_in v p

  abbrev right : LeafView
  right = get_or v.leaves (suc p) first

  abbrev both : LeafView
  both = joined_of left right (next_number v)

  abbrev new : List LeafView
  new = merged_at p (next_number v) v.leaves

  pair : IsMergedAmid v.leaves p
  pair = merged_amid p v.leaves m.may

  has : (P : LeafView → Type 0) → AllByRecursion P v.leaves → AllAmid P pair.before left (right ∷ pair.after)
  has P all = all_amid P pair.before left (right ∷ pair.after) (subst (AllByRecursion P) pair.all all)

  have : (P : LeafView → Type 0) → AllByRecursion P v.leaves → P both → AllByRecursion P new
  have P all one =
      subst (AllByRecursion P) (sym (pair.new (next_number v)))
      (all_appended P pair.before (both ∷ pair.after) (has P all).earlier (one, (has P all).later.1))

  joinable_here : AreJoinable left right
  joinable_here =
      pair_there AreJoinable v.leaves p (joinable v.leaves p m.kept.leaves) (merge_within v.leaves p m.may)

  joined_kept : IsLeaf both
  joined_kept =
      kept_joined left right (next_number v) joinable_here.left_kept joinable_here.right_kept joinable_here.next

  left_numbered : HasLeafNumbers left
  left_numbered = (has HasLeafNumbers m.kept.numbers).here

  right_numbered : HasLeafNumbers right
  right_numbered = (has HasLeafNumbers m.kept.numbers).later.0

  numbers_of_both : HasLeafNumbers both
  numbers_of_both = numbers_stay.join left right (next_number v) left_numbered right_numbered (omega (arith, m.room))

  ordered : IsOrderedDcRecord (merge_of v.log left right)
  ordered = (
    left_numbered.id,
    (right_numbered.id, (images_keep_leaves.ordered both joined_kept numbers_of_both, refl)),
  )

  merged : FitsFrame (merge_of v.log left right)
      → IsSystem (record v { leaves = new; log = merge_of v.log left right ∷ v.log; log_usage = called v.log_usage })
  merged fits = record {
    leaves = (merged_stays v.leaves p (next_number v) m.kept.leaves m.may).leaves;
    numbers = have HasLeafNumbers m.kept.numbers numbers_of_both;
    records = (fits, m.kept.records);
    numbered = omega (arith, m.room);
    named = m.kept.named;
    pages = m.kept.pages;
  }

  -- the same, with the place of the second leaf as the code has it
  next_ordered : IsOrderedDcRecord (merge_of v.log left (leaf_in v (p + 1)))
  next_ordered = subst (λ (q : ℕ). IsOrderedDcRecord (merge_of v.log left (leaf_in v q))) (sym (add-one p)) ordered

  keeps_merged : FitsFrame (merge_of v.log left (leaf_in v (p + 1))) → IsSystem (merged_to v p)
  keeps_merged =
      subst (λ (q : ℕ). FitsFrame (merge_of v.log left (leaf_in v q))
      → IsSystem (record v {
        leaves = new;
        log = merge_of v.log left (leaf_in v q) ∷ v.log;
        log_usage = called v.log_usage;
      })) (sym (add-one p)) merged

-- ---- a merge as it is planned, and then done

-- the merge is that of the leaves, with the next number, and this is what is logged
pub record IsPlanned (v : SystemView) (p d : ℕ) (merge : Merge) (id : ℕ) (image : LeafImage) : Type 0 where
  pub may : Mergeable v p
  pub of : IsMergeOf (leaf_in v p) (leaf_in v (p + 1)) d merge
  pub last : d ≡ next_number v
  pub own : id ≡ merge.merged.value.id
  pub logged : image ≡ image_of merge.merged.value

module _ (v : SystemView) (p d : ℕ) (merge : Merge) (id : ℕ) (image : LeafImage)
    (h : IsPlanned v p d merge id image) where
  both_is : merge.merged.value ≡ joined_of (leaf_in v p) (leaf_in v (p + 1)) (next_number v)
  both_is = h.of.merged ∙ ap (joined_of (leaf_in v p) (leaf_in v (p + 1))) h.last

  spelled : is.Merge id merge.right image ≡ merge_of v.log (leaf_in v p) (leaf_in v (p + 1))
  spelled =
      let first_is : id ≡ (leaf_in v p).id = h.own ∙ ap (λ (l : LeafView). l.id) both_is in
      let same : image ≡ image_of (joined_of (leaf_in v p) (leaf_in v (p + 1)) (next_number v)) =
      h.logged ∙ ap image_of both_is in
      λ i. is.Merge (first_is i) (h.of.gone i) (same i)

  -- the record may be spelled
  pub planned_ordered : IsOrderedDcRecord (is.Merge id merge.right image)
  planned_ordered = subst IsOrderedDcRecord (sym spelled) (next_ordered v p h.may)

  -- and then the leaves are joined
  pub merge_done : (new : SystemView) → FitsFrame (is.Merge id merge.right image)
      → new.leaves ≡ merged_at p merge.merged.value.last v.leaves → new.log ≡ is.Merge id merge.right image ∷ v.log
      → new.stable ≡ v.stable → new.pages ≡ v.pages → IsSystem new
  merge_done new fits leaves log stable pages =
      let by : merge.merged.value.last ≡ next_number v = ap (λ (l : LeafView). l.last) both_is in
      let joined : new.leaves ≡ (merged_to v p).leaves = leaves ∙ (λ i. merged_at p (by i) v.leaves) in
      let logged : new.log ≡ (merged_to v p).log = log ∙ (λ i. spelled i ∷ v.log) in
      let same : new ≡ record (merged_to v p) {
        log_usage = new.log_usage;
        page_usage = new.page_usage;
      } = λ i. record {
        leaves = joined i;
        log = logged i;
        stable = stable i;
        pages = pages i;
        log_usage = new.log_usage;
        page_usage = new.page_usage;
      } in
      subst IsSystem (sym same)
      (keeps_usage (merged_to v p) new.log_usage new.page_usage (keeps_merged v p h.may (subst FitsFrame spelled fits)))
