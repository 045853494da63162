use Rattle.std.proofs.Common.{suc, [], ◌++◌, length, ap, arith, length-append}
use Rattle.std.proofs.lemmas.List.Edits.{length-insert}
use Rattle.dc_tree.specs.Nodes.{TreeNodeView}
use Rattle.dc_tree.proofs.tree.growing.insert_in.Goals as goal

pub over_two-requires-clause-counted : goal.over_two-requires-clause-counted
over_two-requires-clause-counted c =
    let left = ap (λ (n : TreeNodeView). length n.leaves) c.replace-left.ensures.value in
    let all = ap length c.in-Some.ensures.leaves in
    let both = length-append c.insert.new.self.leaves (c.in-Some.right.leaves ++ []) in
    let right = length-append c.in-Some.right.leaves [] in
    let one = length-insert c.args.root.now.leaves (suc c.args.place) c.args.leaf.value
    (omega (arith, c.requires.there)) in
    omega (arith, left, all, both, right, one, c.requires.counted)
