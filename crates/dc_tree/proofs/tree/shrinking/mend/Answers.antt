use Rattle.std.proofs.Common.{◌≡◌, ◌-◌, ◌<◌, ℕ, suc, length, ap, ◌∙◌, arith}
use Rattle.dc_tree.specs.Nodes.{TreeNodeView, under}
use Rattle.std.specs.List.{insert}
use Rattle.dc_tree.proofs.Removed.{count_removed, joined_after, joined_before}
use Rattle.dc_tree.proofs.tree.shrinking.mend.Goals as goal

pub put_joined-requires-clause-counted : goal.put_joined-requires-clause-counted
put_joined-requires-clause-counted c =
    let within : c.args.i < length c.args.children.now.items = omega (arith, c.if-i-len.true, c.len.ensures) in
    let right = ap (λ (n : TreeNodeView). length n.leaves) c.remove-right.ensures.value in
    omega (
      arith,
      right,
      count_removed c.args.children.now.items c.args.i c.remove-right.result within,
      c.requires.counted,
    )

pub put_joined-requires-else-i-len-clause-counted : goal.put_joined-requires-else-i-len-clause-counted
put_joined-requires-else-i-len-clause-counted c =
    let within : c.args.i - 1 < length c.args.children.now.items = omega (arith, c.requires.within, c.requires.some) in
    let left = ap (λ (n : TreeNodeView). length n.leaves) c.remove-left.ensures.value in
    omega (
      arith,
      left,
      count_removed c.args.children.now.items (c.args.i - 1) c.remove-left.result within,
      c.requires.counted,
    )

pub returns-then-i-len-clause-leaves : goal.returns-then-i-len-clause-leaves
returns-then-i-len-clause-leaves c =
    let within : c.args.i < length c.args.children.now.items = omega (arith, c.if-i-len.true, c.len.ensures) in
    c.put_joined.ensures.leaves
    ∙ rw c.remove-right.ensures.items
    (joined_after c.args.children.now.items c.args.i within c.args.node c.remove-right.result
    c.remove-right.ensures.value)

pub returns-else-i-len-clause-leaves : goal.returns-else-i-len-clause-leaves
returns-else-i-len-clause-leaves c =
    let ns = c.args.children.now.items in
    let within : c.args.i - 1 < length ns = omega (arith, c.requires.within, c.requires.some) in
    let last : suc (c.args.i - 1) ≡ c.args.i = omega (arith, c.if-i-len.false, c.len.ensures, c.requires.some) in
    c.put_joined-else-i-len.ensures.leaves
    ∙ rw c.remove-left.ensures.items
    (joined_before ns (c.args.i - 1) within c.args.node c.remove-left.result c.remove-left.ensures.value)
    ∙ ap (λ (i : ℕ). under (insert ns i c.args.node)) last
