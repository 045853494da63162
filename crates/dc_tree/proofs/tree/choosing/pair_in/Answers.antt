use Rattle.std.specs.Option.{is_some}
use Rattle.std.proofs.Common.{List, ◌≡◌, ◌+◌, ◌<◌, suc, get_or, length, sym, ap, ◌∙◌, arith, add-one, ℕ}
use Rattle.dc_tree.specs.Choosing.{first_pair, is_reached, pair_top, extent_first, extent_last}
use Rattle.dc_tree.specs.Nodes.{TreeNodeView, nothing}
use Rattle.dc_tree.proofs.FirstBelow.{stands, pair_not_last, pair_next, pair_here_node, pair_met_node}
use Rattle.dc_tree.proofs.Under.{count_more, count_parts}
use Rattle.dc_tree.proofs.tree.choosing.pair_in.Goals as goal
use Rattle.dc_tree.proofs.tree.choosing.pair_in.Goals.{After-count-before, After-has_pair}

taken : (c : After-count-before)
    → c.count-before.result ≡ length (get_or c.args.nodes.now c.loop-before.i nothing).leaves
taken c = c.count-before.ensures
    ∙ ap (λ (n : TreeNodeView). length n.leaves)
    (stands _ _ _ c.loop-before.invariant.0 c.index-nodes-i-in-loop-before-3.is)

-- what is asked of the node at the place
asked : (c : After-has_pair)
    → is_some (first_pair c.args.known (get_or c.args.nodes.now c.loop-before.i nothing).leaves) ≡ c.has_pair.result
asked c =
    ap (λ (n : TreeNodeView). is_some (first_pair c.args.known n.leaves))
    (sym (stands _ _ _ c.loop-before.invariant.0 c.index-nodes-i.is))
    ∙ sym c.has_pair.ensures

met : (known : ℕ) (ns : List TreeNodeView) (i : ℕ) (x y : TreeNodeView) → i < length ns → i + 1 < length ns
    → x ≡ get_or ns i x → y ≡ get_or ns (i + 1) y
    → is_reached known
    (pair_top (extent_last (get_or ns i nothing).leaves) (extent_first (get_or ns (suc i) nothing).leaves))
    ≡ is_reached known (pair_top (extent_last x.leaves) (extent_first y.leaves))
met known ns i x y within next here there = rw (stands ns i x within here, stands ns (i + 1) y next there, add-one)

pub overflow_add-before : goal.overflow_add-before
overflow_add-before c =
    omega (
      arith,
      taken c,
      count_parts c.args.nodes.now c.loop-before.i nothing c.loop-before.invariant.0,
      c.loop-before.invariant.1,
      c.requires.counted,
    )

pub loop-before-preserved : goal.loop-before-preserved
loop-before-preserved c =
    let ns = c.args.nodes.now in
    let i = c.loop-before.i in
    let before = c.loop-before.before in
    let within = c.loop-before.invariant.0 in
    let none = asked c.before.before.before.before.before.before.before ∙ c.loop-before-test.true in
    let less = pair_not_last c.args.known ns i before within _ c.requires.children c.loop-before.invariant.2 c.requires.some none in
    let apart =
    met c.args.known ns i c.index-nodes-i-in-loop-before.result c.index-nodes-i-in-loop-before-2.result within
    (omega (arith, less)) c.index-nodes-i-in-loop-before.is c.index-nodes-i-in-loop-before-2.is ∙ sym c.meet.ensures
    ∙ c.if-not-meet.true in
    let later = pair_next c.args.known ns i before within _ c.requires.children c.loop-before.invariant.2 less none apart in
    rw (add-one, taken c) (less, omega (arith, count_more ns i nothing within, c.loop-before.invariant.1), later)

pub returns-else-not-meet : goal.returns-else-not-meet
returns-else-not-meet c =
    let ns = c.args.nodes.now in
    let i = c.loop-before.i in
    let before = c.loop-before.before in
    let within = c.loop-before.invariant.0 in
    let none = asked c.before.before.before.before.before ∙ c.loop-before-test.true in
    let less = pair_not_last c.args.known ns i before within _ c.requires.children c.loop-before.invariant.2 c.requires.some none in
    let few = met c.args.known ns i c.index-nodes-i-in-loop-before.result c.index-nodes-i-in-loop-before-2.result within
    (omega (arith, less)) c.index-nodes-i-in-loop-before.is c.index-nodes-i-in-loop-before-2.is ∙ sym c.meet.ensures
    ∙ c.if-not-meet.false in
    pair_met_node c.args.known ns i before within _ c.requires.children c.loop-before.invariant.2 less few

pub returns-after-loop-before : goal.returns-after-loop-before
returns-after-loop-before c =
    pair_here_node c.args.known c.args.nodes.now c.loop-before.i c.loop-before.before c.loop-before.invariant.0 _
    c.requires.children c.loop-before.invariant.2
    (asked c.before ∙ c.loop-before-test.false)
