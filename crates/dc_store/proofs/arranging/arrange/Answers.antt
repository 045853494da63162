use Rattle.std.proofs.Common.{◌≡◌, ◌∙◌, ℕ, suc, ◌+◌, true, None, false, List, Box, sym, ap, subst, get_or, arith, rules}
use Rattle.std.specs.declared.alloc.Global.{Global}
use Rattle.std.proofs.lemmas.Fn.{always_returns_same}
use Rattle.dc_tree.specs.Lists.{leaves_in}
use Rattle.dc_leaf.specs.Leaf.{LeafView}
use Rattle.dc_store.specs.Arranging.{tiles_on}
use Rattle.dc_store.proofs.AllKeys.{tiles_true, same_leaves, none_tile}
use Rattle.dc_store.proofs.InOrder.{fence_below, rise_from}
use Rattle.dc_store.proofs.arranging.arrange.Goals as goal

pub returns-then-have_all_keys-clause-arranged : goal.returns-then-have_all_keys-clause-arranged
returns-then-have_all_keys-clause-arranged c = record {
  same = same_leaves _ _ c.sort_unstable_by_key.ensures.permutation;
  tile = tiles_true _ _
      (ap (λ (bs : List (Box LeafView Global)). tiles_on true None (leaves_in bs)) (sym c.as_slice.ensures.value)
      ∙ sym c.have_all_keys.ensures ∙ c.if-have_all_keys.true);
}

pub returns-else-have_all_keys-clause-none : goal.returns-else-have_all_keys-clause-none
returns-else-have_all_keys-clause-none c =
    let sorted = c.sort_unstable_by_key.ensures.sorted (λ (b : Box LeafView Global). b.value.low_fence)
    (always_returns_same _ (λ a r. r ≡ a.0.now.value.low_fence) _ (λ a r f k. search rules)) in
    let row : List (Box LeafView Global) = c.sort_unstable_by_key.new.self.items in
    none_tile c.args.leaves.items row c.sort_unstable_by_key.ensures.permutation c.requires
    (rise_from row (λ k d lt.
    let next : k + 1 ≡ suc k = omega arith in
    subst (λ (n : ℕ). fence_below (get_or row n d).value.low_fence (get_or row k d).value.low_fence ≡ false) next
    (sorted k d (omega arith) (omega (arith, lt)))))
    (ap (λ (bs : List (Box LeafView Global)). tiles_on true None (leaves_in bs)) (sym c.as_slice.ensures.value)
    ∙ sym c.have_all_keys.ensures ∙ c.if-have_all_keys.false)
