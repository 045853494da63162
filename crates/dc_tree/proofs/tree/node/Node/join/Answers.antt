use Rattle.std.proofs.Common.{ℕ, length, ap, ◌∙◌, sym, subst, arith, length-append}
use Rattle.std.specs.Option.{option_to_list}
use Rattle.dc_tree.specs.Nodes.{TreeNodeView, under, over_nodes, IsChild}
use Rattle.dc_tree.specs.Below.{seen}
use Rattle.dc_tree.proofs.Whole.{child_over}
use Rattle.dc_tree.proofs.tree.node.Node.join.Goals as goal

pub count_in-self-inside-requires : goal.count_in-self-inside-requires
count_in-self-inside-requires c =
    let left = ap (λ (n : TreeNodeView). length n.leaves) (ap seen (sym c.in-Inner.is) ∙ c.self.view_is) in
    let right = ap (λ (n : TreeNodeView). length n.leaves) c.opened.ensures.seen in
    let all = ap length c.join_in-more.ensures.leaves in
    let one = length-append (under c.join_in-more.new.children.items) (under (option_to_list c.join_in-more.result)) in
    let two = length-append (under c.in-Inner.children.items) (under c.opened.result.items) in
    rw c.as_slice-in-Inner.ensures.value (omega (arith, left, right, all, one, two, c.requires.counted))

pub returns-clause-child : goal.returns-clause-child
returns-clause-child c =
    let height = ap (λ (n : TreeNodeView). n.height) (ap seen (sym c.in-Inner.is) ∙ c.self.view_is) in
    subst (λ (h : ℕ). IsChild h (over_nodes c.join_in-more.new.children.items)) height
    (child_over _ c.join_in-more.new.children.items c.join_in-more.ensures.children c.join_in-more.ensures.two
    c.join_in-more.ensures.most)
