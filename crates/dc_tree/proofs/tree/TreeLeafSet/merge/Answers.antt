use Rattle.std.proofs.Common.{◌≡◌, ◌<◌, ◌+◌, true, List, length, get_or, sym, ap, ◌∙◌, subst, arith, add-one}
use Rattle.std.specs.List.{remove}
use Rattle.dc_leaf.specs.Leaf.{LeafView, first}
use Rattle.dc_tree.specs.Lists.{ListView}
use Rattle.dc_tree.specs.Parting.{may_merge_at, merged_at, IsMergeOf}
use Rattle.dc_tree.proofs.Among.{merge_among, not_leaf}
use Rattle.dc_tree.proofs.Changed.{same_count, still_whole}
use Rattle.dc_tree.proofs.Places.{merge_within}
use Rattle.dc_tree.proofs.Stays.{merged_stays}
use Rattle.dc_tree.proofs.tree.TreeLeafSet.merge.Goals as goal

pub put-requires-clause-there : goal.put-requires-clause-there
put-requires-clause-there c =
    omega (
      arith,
      merge_within c.self.inside.root.leaves c.args.place
          (ap (λ (t : ListView). may_merge_at t.leaves c.args.place) c.self.view_is ∙ c.requires.may),
    )

there : (c : goal.After-remove_in-arg-2-1) → c.args.place + 1 < length c.put.new.self.leaves
there c =
    let within = merge_within c.self.inside.root.leaves c.args.place
    (ap (λ (t : ListView). may_merge_at t.leaves c.args.place) c.self.view_is ∙ c.requires.may) in
    omega (arith, within, same_count c.args.place c.self.inside.root c.put.new.self c.put.ensures.changed)

pub overflow_add-place : goal.overflow_add-place
overflow_add-place c = omega (arith, there c, c.put.ensures.counted)

pub remove_in-requires-clause-inner : goal.remove_in-requires-clause-inner
remove_in-requires-clause-inner c =
    not_leaf c.put.new.self (still_whole c.args.place c.self.inside.root c.put.new.self c.put.ensures.changed
    c.self.invariant.1) (omega (arith, there c))

pub remove_in-requires-clause-there : goal.remove_in-requires-clause-there
remove_in-requires-clause-there c = there c

after : (c : goal.After-remove_in)
    → c.remove_in.new.root.leaves ≡ merged_at c.args.place c.args.merge.merged.value.last c.self.inside.root.leaves
after c =
    let old = c.self.inside.root.leaves in
    let p = c.args.place in
    let last = c.args.merge.merged.value.last in
    let may : may_merge_at old p ≡ true =
    ap (λ (t : ListView). may_merge_at t.leaves c.args.place) c.self.view_is ∙ c.requires.may in
    let both : IsMergeOf (get_or old p first) (get_or old (p + 1) first) last c.args.merge =
    subst (λ (t : ListView). IsMergeOf (get_or t.leaves p first) (get_or t.leaves (p + 1) first) last c.args.merge)
    (sym c.self.view_is) c.requires.both in
    c.remove_in.ensures.leaves
    ∙ ap (λ (leaves : List LeafView). remove leaves (p + 1)) c.put.ensures.changed.leaves
    ∙ rw add-one (merge_among old p last (get_or c.put.new.self.leaves p first) may
    (c.put.ensures.put ∙ rw add-one at both.merged))

pub invariant_of-self : goal.invariant_of-self
invariant_of-self c =
    let may : may_merge_at c.self.inside.root.leaves c.args.place ≡ true =
    ap (λ (t : ListView). may_merge_at t.leaves c.args.place) c.self.view_is ∙ c.requires.may in (
      rw (after c) (merged_stays c.self.inside.root.leaves c.args.place c.args.merge.merged.value.last
          c.self.invariant.0 may).leaves,
      c.remove_in.ensures.whole,
      c.self.invariant.2,
    )

pub returns : goal.returns
returns c = after c ∙ ap (λ (t : ListView). merged_at c.args.place c.args.merge.merged.value.last t.leaves)
    c.self.view_is
