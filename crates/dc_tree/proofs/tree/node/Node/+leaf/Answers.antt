use Rattle.std.proofs.Common.{get_or, sym, ap, ◌∙◌}
use Rattle.std.proofs.lemmas.List.{get_or_default}
use Rattle.dc_leaf.specs.Leaf.{first}
use Rattle.dc_tree.specs.Nodes.{TreeNodeView, nothing}
use Rattle.dc_tree.specs.Finding.{IsIn}
use Rattle.dc_tree.specs.Below.{seen}
use Rattle.dc_tree.proofs.AtPlace.{leaf_in}
use Rattle.dc_tree.proofs.tree.node.Node.+leaf.Goals as goal

pub returns-in-Inner : goal.returns-in-Inner
returns-in-Inner t c =
    let ns = c.in-Inner.children.items in
    let place = c.args.place in
    let i = c.node_at-i.result.0 in
    let rest = c.node_at-i.result.1 in
    let at : IsIn ns place i rest = rw c.as_slice.ensures.value at c.node_at-i.ensures in
    let child = c.index.ensures ∙ get_or_default ns i c.index.result.now nothing at.there in
    c.leaf.ensures
    ∙ ap (λ (n : TreeNodeView). get_or n.leaves rest first) child
    ∙ sym (leaf_in ns place i rest at)
    ∙ ap (λ (n : TreeNodeView). get_or n.leaves place first) (ap seen (sym c.in-Inner.is) ∙ c.self.view_is)
