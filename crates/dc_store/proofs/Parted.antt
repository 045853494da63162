-- After a split and after a merge the log is legal, and the leaves are those that it says.
use Rattle.std.proofs.Common.{◌≡◌, ℕ, suc, true, List, ◌∷◌, ◌++◌, sym, subst, add-one}
use Rattle.std.specs.List.{AllByRecursion}
use Rattle.dc_leaf.specs.Leaf.{LeafView, IsLeaf}
use Rattle.dc_leaf.specs.Tiles.{IsInside, part_of}
use Rattle.dc_tree.specs.Parting.{middle, may_split_at, may_merge_at, merged_at}
use Rattle.dc_tree.proofs.Kept.{cuts_inside}
use Rattle.dc_recovery.specs.Laws.{IsCurrent}
use Rattle.dc_recovery.specs.Leaves.{AreCurrent, AreInPlace, split_of, merge_of}
use Rattle.dc_recovery.proofs.Fitting.{fit_stays}
use Rattle.dc_recovery.proofs.Halves.{halves_fit}
use Rattle.dc_recovery.proofs.Leaves.{leaves_are_the_shapes}
use Rattle.stable.specs.Usage.{called}
use Rattle.dc_store.specs.SystemView.{SystemView}
use Rattle.dc_store.specs.Changes.{leaf_in, next_id, next_number, split_to, merged_to}
use Rattle.dc_store.specs.Kept.{IsSystem, IsRecoverable}
use Rattle.dc_store.proofs.Amid.{IsSplitAmid, split_amid, IsMergedAmid, merged_amid, AllAmid, all_amid}

-- each leaf is as the log has it
abbrev IsSo : SystemView → LeafView → Type 0
IsSo v leaf = IsCurrent v.log leaf.id leaf

pub split_recoverable : (v : SystemView) (p : ℕ) → IsSystem v → IsRecoverable v → may_split_at v.leaves p ≡ true
    → IsRecoverable (split_to v p)
split_recoverable v p kept h may =
    let leaf : LeafView = leaf_in v p in
    let cut : List ℕ = middle leaf in
    let amid : IsSplitAmid v.leaves p = split_amid p v.leaves may in
    let current : AreCurrent v.log (amid.before ++ leaf ∷ amid.after) =
    subst (AreCurrent v.log) amid.all h.current in
    let leaf_kept : IsLeaf leaf =
    (all_amid IsLeaf amid.before leaf amid.after (subst (AllByRecursion IsLeaf) amid.all kept.leaves.each)).here in
    let inside : IsInside (part_of leaf) cut = cuts_inside leaf leaf_kept amid.may in
    let here : IsSo v leaf = (all_amid (IsSo v) amid.before leaf amid.after current.each).here in
    record {
      legal = (halves_fit.cut v.log leaf cut h.legal here inside, h.legal);
      current =
          subst (AreCurrent (split_of v.log leaf cut ∷ v.log)) (sym (amid.new (next_id v) (next_number v)))
          (leaves_are_the_shapes.split v.log amid.before amid.after leaf cut h.legal current inside);
      fit = fit_stays.grow _ _ v.log v.stable h.fit;
    }

-- the place of the second leaf is as the lists have it
merge_after : (v : SystemView) (p : ℕ) → IsRecoverable v → may_merge_at v.leaves p ≡ true
    → IsRecoverable (record v {
      leaves = merged_at p (next_number v) v.leaves;
      log = merge_of v.log (leaf_in v p) (leaf_in v (suc p)) ∷ v.log;
      log_usage = called v.log_usage;
    })
merge_after v p h may =
    let left : LeafView = leaf_in v p in
    let right : LeafView = leaf_in v (suc p) in
    let pair : IsMergedAmid v.leaves p = merged_amid p v.leaves may in
    let stand : AreInPlace v.log v.leaves = leaves_are_the_shapes.place v.log v.leaves h.legal h.current in
    let current : AreCurrent v.log (pair.before ++ left ∷ right ∷ pair.after) =
    subst (AreCurrent v.log) pair.all h.current in
    let all : AllAmid (IsSo v) pair.before left (right ∷ pair.after) =
    all_amid (IsSo v) pair.before left (right ∷ pair.after) current.each in
    record {
      legal = (
        halves_fit.join v.log left right h.legal all.here all.later.0
            (stand.next pair.before pair.after left right pair.all),
        h.legal,
      );
      current =
          subst (AreCurrent (merge_of v.log left right ∷ v.log)) (sym (pair.new (next_number v)))
          (leaves_are_the_shapes.merge v.log pair.before pair.after left right h.legal current);
      fit = fit_stays.grow _ _ v.log v.stable h.fit;
    }

-- and as the code has it
pub merge_recoverable : (v : SystemView) (p : ℕ) → IsRecoverable v → may_merge_at v.leaves p ≡ true
    → IsRecoverable (merged_to v p)
merge_recoverable v p h may =
    subst (λ (q : ℕ). IsRecoverable (record v {
      leaves = merged_at p (next_number v) v.leaves;
      log = merge_of v.log (leaf_in v p) (leaf_in v q) ∷ v.log;
      log_usage = called v.log_usage;
    })) (sym (add-one p)) (merge_after v p h may)
