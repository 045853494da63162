use Rattle.std.proofs.Common.{◌≡◌, ◌+◌, length, take, take_all, sym, ap, ◌∙◌, arith, add-one}
use Rattle.dc_tree.specs.Nodes.{under}
use Rattle.dc_tree.proofs.Under.{count_more, count_parts}
use Rattle.dc_tree.proofs.tree.children.count_in.Goals as goal

so_far : (c : goal.After-count-count)
    → c.loop-node.count + c.count-count.result ≡ length (under (take (c.loop-node.node-index + 1) c.args.nodes.now))
so_far c =
    rw (c.loop-node.invariant, c.count-count.ensures, c.node-item.is, add-one)
    (sym (count_more c.args.nodes.now c.loop-node.node-index c.node-item.result c.loop-node-test.true))

pub overflow_add-count : goal.overflow_add-count
overflow_add-count c =
    let ns = c.args.nodes.now in
    let i = c.loop-node.node-index in
    let all = count_parts ns i c.node-item.result c.loop-node-test.true in
    let item = ap (λ n. length n.leaves) c.node-item.is in
    omega (arith, all, item, c.loop-node.invariant, c.count-count.ensures, c.requires)

pub loop-node-preserved : goal.loop-node-preserved
loop-node-preserved c = so_far c

pub returns : goal.returns
returns c =
    c.loop-node.invariant
    ∙ ap (λ ns. length (under ns))
    (take_all c.loop-node.node-index c.args.nodes.now (omega (arith, c.loop-node-test.false)))
