use Rattle.std.proofs.Common.{◌++◌, ap, ◌∙◌, sym, arith, append-nil}
use Rattle.dc_tree.specs.Nodes.{TreeNodeView, under}
use Rattle.dc_tree.proofs.Under.{count_inserted, under_halves}
use Rattle.dc_tree.proofs.tree.growing.add.Goals as goal

pub divide-requires-clause-counted : goal.divide-requires-clause-counted
divide-requires-clause-counted c =
    rw c.put_in.ensures.items
    (omega (arith, count_inserted c.args.children.now.items c.args.i c.args.node, c.requires.counted))

pub returns-clause-leaves : goal.returns-clause-leaves
returns-clause-leaves c =
    let rest = append-nil c.divide.result.leaves ∙ ap (λ (n : TreeNodeView). n.leaves) c.divide.ensures.right in
    (λ i. under (c.divide.ensures.left i) ++ rest i)
    ∙ sym (under_halves c.put_in.new.children.items c.stays_of.result)
    ∙ ap under c.put_in.ensures.items
