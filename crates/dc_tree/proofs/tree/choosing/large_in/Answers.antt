use Rattle.std.proofs.Common.{◌≡◌, get_or, length, ap, sym, ◌∙◌, arith, add-one}
use Rattle.std.specs.Option.{is_some}
use Rattle.dc_tree.specs.Choosing.{first_large}
use Rattle.dc_tree.specs.Nodes.{TreeNodeView, nothing}
use Rattle.dc_tree.proofs.FirstBelow.{stands, large_here_node, large_later_node}
use Rattle.dc_tree.proofs.Under.{count_more, count_parts}
use Rattle.dc_tree.proofs.tree.choosing.large_in.Goals as goal
use Rattle.dc_tree.proofs.tree.choosing.large_in.Goals.{After-count-before, After-has_large}

taken : (c : After-count-before)
    → c.count-before.result ≡ length (get_or c.args.nodes.now c.loop-before.i nothing).leaves
taken c = c.count-before.ensures
    ∙ ap (λ (n : TreeNodeView). length n.leaves) (stands _ _ _ c.loop-before.invariant.0 c.index-nodes-i-in-loop-before.is)

-- what is asked of the node at the place
asked : (c : After-has_large)
    → is_some (first_large c.args.known (get_or c.args.nodes.now c.loop-before.i nothing).leaves) ≡ c.has_large.result
asked c =
    ap (λ (n : TreeNodeView). is_some (first_large c.args.known n.leaves))
    (sym (stands _ _ _ c.loop-before.invariant.0 c.index-nodes-i.is))
    ∙ sym c.has_large.ensures

pub overflow_add-before : goal.overflow_add-before
overflow_add-before c =
    omega (
      arith,
      taken c,
      count_parts c.args.nodes.now c.loop-before.i nothing c.loop-before.invariant.0,
      c.loop-before.invariant.1,
      c.requires.counted,
    )

pub loop-before-preserved : goal.loop-before-preserved
loop-before-preserved c =
    let ns = c.args.nodes.now in
    let i = c.loop-before.i in
    let within = c.loop-before.invariant.0 in
    let none = asked c.before.before.before ∙ c.loop-before-test.true in
    let later = large_later_node c.args.known ns i c.loop-before.before within c.loop-before.invariant.2 c.requires.some
    none in
    rw (add-one, taken c) (later.0, omega (arith, count_more ns i nothing within, c.loop-before.invariant.1), later.1)

pub returns : goal.returns
returns c =
    large_here_node c.args.known c.args.nodes.now c.loop-before.i c.loop-before.before c.loop-before.invariant.0
    c.loop-before.invariant.2 (asked c.before ∙ c.loop-before-test.false)
