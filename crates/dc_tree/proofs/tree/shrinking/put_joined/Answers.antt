use Rattle.std.proofs.Common.{List, ◌++◌, take, drop, ap, ◌∙◌, sym, append-nil, add-one}
use Rattle.dc_leaf.specs.Leaf.{LeafView}
use Rattle.dc_tree.specs.Nodes.{under}
use Rattle.dc_tree.proofs.Inserted.{under_pair}
use Rattle.dc_tree.proofs.Under.{under_inserted}
use Rattle.dc_tree.proofs.tree.shrinking.put_joined.Goals as goal

pub returns-in-Some-clause-leaves : goal.returns-in-Some-clause-leaves
returns-in-Some-clause-leaves c =
    let ns = c.args.children.now.items in
    let i = c.args.i in
    let both = ap (λ (leaves : List LeafView). c.join-more.new.self.leaves ++ leaves)
    (sym (append-nil c.in-Some.node.leaves)) ∙ c.in-Some.ensures.leaves in
    rw (c.put_in-in-Some.ensures.items, c.put_in.ensures.items, add-one)
    (under_pair ns i c.join-more.new.self c.in-Some.node c.requires.within
    ∙ ap (λ (leaves : List LeafView). under (take i ns) ++ (leaves ++ under (drop i ns))) both)

pub returns-in_default-clause-leaves : goal.returns-in_default-clause-leaves
returns-in_default-clause-leaves c =
    let ns = c.args.children.now.items in
    let i = c.args.i in
    let one = sym (append-nil c.join-more.new.self.leaves) ∙ c.in_default.ensures.leaves in
    rw c.put_in.ensures.items
    (under_inserted ns i c.join-more.new.self
    ∙ ap (λ (leaves : List LeafView). under (take i ns) ++ (leaves ++ under (drop i ns))) one)
