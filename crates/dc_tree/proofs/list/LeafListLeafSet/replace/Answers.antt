use Rattle.std.proofs.Common.{◌<◌, length, get_or, ap, ◌∙◌, subst, sym}
use Rattle.dc_leaf.specs.Leaf.{IsLeaf, first}
use Rattle.dc_tree.specs.Lists.{ListView, leaves_in}
use Rattle.dc_tree.proofs.Replaced.{replaced_leaves}
use Rattle.dc_tree.proofs.list.LeafListLeafSet.replace.Goals as goal

pub invariant_of-self : goal.invariant_of-self
invariant_of-self c =
    let old = leaves_in c.self.inside.leaves.items in
    let p = c.args.place in
    rw c.replace_in.ensures
    (replaced_leaves old p c.args.leaf.value (subst IsLeaf c.deref.ensures c.kept.ensures)
    (subst (λ (l : ListView). p < length l.leaves) (sym c.self.view_is) c.requires.there)
    (c.requires.low ∙ sym (ap (λ (l : ListView). (get_or l.leaves p first).low_fence) c.self.view_is))
    (c.requires.high ∙ sym (ap (λ (l : ListView). (get_or l.leaves p first).high_fence) c.self.view_is))
    c.self.invariant)
