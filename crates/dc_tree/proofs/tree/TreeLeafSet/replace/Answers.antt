use Rattle.std.proofs.Common.{◌≡◌, ◌<◌, length, get_or, set, ap, ◌∙◌, subst, sym}
use Rattle.dc_leaf.specs.Leaf.{LeafView, IsLeaf, first}
use Rattle.dc_tree.specs.Lists.{ListView}
use Rattle.dc_tree.proofs.Changed.{still_whole}
use Rattle.dc_tree.proofs.Replaced.{replaced_leaves}
use Rattle.dc_tree.proofs.tree.TreeLeafSet.replace.Goals as goal

after : (c : goal.After-put) → c.put.new.self.leaves ≡ set c.self.inside.root.leaves c.args.place c.args.leaf.value
after c = c.put.ensures.changed.leaves
    ∙ ap (λ (leaf : LeafView). set c.self.inside.root.leaves c.args.place leaf) c.put.ensures.put

pub invariant_of-self : goal.invariant_of-self
invariant_of-self c =
    let old = c.self.inside.root.leaves in
    let p = c.args.place in (
      rw (after c) (replaced_leaves old p c.args.leaf.value (subst IsLeaf c.deref.ensures c.kept.ensures)
          (subst (λ (t : ListView). p < length t.leaves) (sym c.self.view_is) c.requires.there)
          (c.requires.low ∙ sym (ap (λ (t : ListView). (get_or t.leaves p first).low_fence) c.self.view_is))
          (c.requires.high ∙ sym (ap (λ (t : ListView). (get_or t.leaves p first).high_fence) c.self.view_is))
          c.self.invariant.0),
      still_whole p c.self.inside.root c.put.new.self c.put.ensures.changed c.self.invariant.1,
      c.self.invariant.2,
    )

pub returns : goal.returns
returns c = after c ∙ ap (λ (t : ListView). set t.leaves c.args.place c.args.leaf.value) c.self.view_is
