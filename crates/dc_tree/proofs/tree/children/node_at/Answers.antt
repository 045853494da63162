use Rattle.std.proofs.Common.{length, ap, ◌∙◌, arith, add-one}
use Rattle.std.proofs.lemmas.List.{get_or_default}
use Rattle.dc_tree.specs.Nodes.{nothing}
use Rattle.dc_tree.proofs.Under.{some_nodes, lies_later, count_more}
use Rattle.dc_tree.proofs.tree.children.node_at.Goals as goal

pub loop-rest-init : goal.loop-rest-init
loop-rest-init c = (some_nodes c.args.nodes.now (omega (arith, c.requires)), omega arith)

pub loop-rest-preserved : goal.loop-rest-preserved
loop-rest-preserved c =
    let ns = c.args.nodes.now in
    let i = c.loop-rest.i in
    let within = c.loop-rest.invariant.0 in
    let tested = ap (λ n. length n.leaves)
    (c.index-nodes-i.is ∙ get_or_default ns i c.index-nodes-i.result nothing within) in
    let taken = ap (λ n. length n.leaves)
    (c.index-nodes-i-in-loop-rest.is ∙ get_or_default ns i c.index-nodes-i-in-loop-rest.result nothing within) in
    let more = count_more ns i nothing within in
    let test = c.loop-rest-test.true in
    let next = lies_later ns i c.args.place nothing within c.requires
    (omega (arith, tested, c.loop-rest.invariant.1, c.count.ensures, test)) in
    rw add-one (
      next,
      omega (
        arith,
        tested,
        taken,
        more,
        c.loop-rest.invariant.1,
        c.count.ensures,
        c.count-rest.ensures,
        test,
      ),
    )

pub returns : goal.returns
returns c =
    let ns = c.args.nodes.now in
    let i = c.loop-rest.i in
    let item = ap (λ n. length n.leaves)
    (c.index-nodes-i.is ∙ get_or_default ns i c.index-nodes-i.result nothing c.loop-rest.invariant.0) in
    record {
      there = c.loop-rest.invariant.0;
      within = omega (arith, item, c.count.ensures, c.loop-rest-test.false);
      is = c.loop-rest.invariant.1;
    }
