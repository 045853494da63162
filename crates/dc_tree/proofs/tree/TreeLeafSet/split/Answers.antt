use Rattle.std.proofs.Common.{◌≡◌, true, List, suc, get_or, refl, sym, ap, ◌∙◌, subst}
use Rattle.std.specs.List.{insert}
use Rattle.dc_leaf.specs.Leaf.{LeafView, first}
use Rattle.dc_leaf.specs.Parting.{lower_of}
use Rattle.dc_tree.specs.Lists.{ListView}
use Rattle.dc_tree.specs.Parting.{middle, may_split_at, split_at, IsSplitOf}
use Rattle.dc_tree.proofs.Among.{split_among}
use Rattle.dc_tree.proofs.Places.{split_within}
use Rattle.dc_tree.proofs.Stays.{split_stays}
use Rattle.dc_tree.proofs.tree.TreeLeafSet.split.Goals as goal

pub drop_from-requires : goal.drop_from-requires
drop_from-requires c = split_within c.self.inside.root.leaves c.args.place
    (ap (λ (t : ListView). may_split_at t.leaves c.args.place) c.self.view_is ∙ c.requires.may)

after : (c : goal.After-insert_in)
    → c.insert_in.new.root.leaves
    ≡ split_at c.args.place c.args.split.right.value.id c.args.split.right.value.last c.self.inside.root.leaves
after c =
    let old = c.self.inside.root.leaves in
    let p = c.args.place in
    let leaf : LeafView = get_or old p first in
    let last = c.args.split.right.value.last in
    let may : may_split_at old p ≡ true =
    ap (λ (t : ListView). may_split_at t.leaves c.args.place) c.self.view_is ∙ c.requires.may in
    let half : IsSplitOf leaf c.args.split.right.value.id last c.args.split =
    subst (λ (t : ListView). IsSplitOf (get_or t.leaves p first) c.args.split.right.value.id last c.args.split)
    (sym c.self.view_is) c.requires.half in
    let lower : get_or c.drop_from.new.self.leaves p first ≡ lower_of leaf (middle leaf) last =
    c.drop_from.ensures.lower ∙ rw (half.cut, c.last.ensures, c.deref.ensures) refl in
    c.insert_in.ensures.leaves
    ∙ ap (λ (leaves : List LeafView). insert leaves (suc p) c.args.split.right.value) c.drop_from.ensures.changed.leaves
    ∙ split_among old p c.args.split.right.value.id last (get_or c.drop_from.new.self.leaves p first)
    c.args.split.right.value leaf may refl lower half.right

pub invariant_of-self : goal.invariant_of-self
invariant_of-self c =
    let may : may_split_at c.self.inside.root.leaves c.args.place ≡ true =
    ap (λ (t : ListView). may_split_at t.leaves c.args.place) c.self.view_is ∙ c.requires.may in (
      rw (after c) (split_stays c.self.inside.root.leaves c.args.place c.args.split.right.value.id
          c.args.split.right.value.last c.self.invariant.0 may).leaves,
      c.insert_in.ensures.whole,
      c.insert_in.ensures.spare,
    )

pub returns : goal.returns
returns c =
    after c ∙ ap (λ (t : ListView). split_at c.args.place c.args.split.right.value.id c.args.split.right.value.last
    t.leaves) c.self.view_is
