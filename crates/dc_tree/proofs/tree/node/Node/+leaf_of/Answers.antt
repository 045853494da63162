use Rattle.std.proofs.Common.{get_or, sym, ap, ◌∙◌, subst}
use Rattle.std.proofs.lemmas.List.{get_or_default}
use Rattle.dc_tree.specs.Nodes.{TreeNodeView, nothing}
use Rattle.dc_tree.specs.Finding.{IsNodeOf, IsLeafOf}
use Rattle.dc_tree.specs.Below.{seen, IsNode}
use Rattle.dc_tree.proofs.PlaceOf.{leaf_of_nodes}
use Rattle.dc_tree.proofs.tree.node.Node.+leaf_of.Goals as goal

pub returns-in-Inner : goal.returns-in-Inner
returns-in-Inner t c =
    let ns = c.in-Inner.children.items in
    let i = c.node_of-i.result in
    let kept = subst (IsNode c.self.inside.low c.self.inside.count c.self.inside.summary) c.in-Inner.is
    c.self.invariant in
    let node : IsNodeOf ns c.args.key.now i = rw c.as_slice.ensures.value at c.node_of-i.ensures in
    let child = c.index.ensures ∙ get_or_default ns i c.index.result.now nothing node.there in
    let found : IsLeafOf (get_or ns i nothing).leaves c.args.key.now c.leaf_of.result.now =
    subst (λ (n : TreeNodeView). IsLeafOf n.leaves c.args.key.now c.leaf_of.result.now) child c.leaf_of.ensures in
    subst (λ (n : TreeNodeView). IsLeafOf n.leaves c.args.key.now c.leaf_of.result.now)
    (ap seen (sym c.in-Inner.is) ∙ c.self.view_is)
    (leaf_of_nodes _ ns c.args.key.now i found.place kept.under_it.children node found.at c.leaf_of.result.now found.is)
