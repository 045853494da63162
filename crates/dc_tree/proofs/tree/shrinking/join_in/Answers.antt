use Rattle.std.proofs.Common.{◌++◌, length, ap, ◌∙◌, sym, arith, append-nil, length-append}
use Rattle.dc_tree.specs.Nodes.{TreeNodeView, under}
use Rattle.dc_tree.proofs.Under.{under_append, under_halves}
use Rattle.dc_tree.proofs.tree.shrinking.join_in.Goals as goal

pub returns-then-len-le-MOST-clause-leaves : goal.returns-then-len-le-MOST-clause-leaves
returns-then-len-le-MOST-clause-leaves c =
    append-nil (under c.append.new.self.items) ∙ ap under c.in-Ok.ensures.items
    ∙ under_append c.args.children.now.items c.args.right.items

pub divide-requires-clause-counted : goal.divide-requires-clause-counted
divide-requires-clause-counted c =
    let all = ap length (ap under c.in-Ok.ensures.items ∙ under_append c.args.children.now.items c.args.right.items) in
    omega (arith, all, length-append (under c.args.children.now.items) (under c.args.right.items), c.requires.counted)

pub returns-clause-leaves : goal.returns-clause-leaves
returns-clause-leaves c =
    let zs = c.append.new.self.items in
    let rest = append-nil c.divide.result.leaves ∙ ap (λ (n : TreeNodeView). n.leaves) c.divide.ensures.right in
    (λ i. under (c.divide.ensures.left i) ++ rest i)
    ∙ sym (under_halves zs c.args.stays)
    ∙ ap under c.in-Ok.ensures.items
    ∙ under_append c.args.children.now.items c.args.right.items
