use Rattle.std.proofs.Common.{◌<◌, ◌∙◌, length, ap, sym, arith, add-one, take_all}
use Rattle.std.proofs.lemmas.List.{get_or_default}
use Rattle.dc_tree.specs.Choosing.{both_of, summary_of}
use Rattle.dc_tree.specs.Nodes.{TreeNodeView, nothing, under}
use Rattle.dc_tree.proofs.FirstBelow.{summary_more}
use Rattle.dc_tree.proofs.tree.children.summary_in.Goals as goal

pub loop-i-preserved : goal.loop-i-preserved
loop-i-preserved c =
    let ns = c.args.nodes.now in
    let i = c.loop-i.i in
    let within : i < length ns = c.loop-i-test.true in
    let item = ap (λ (n : TreeNodeView). summary_of n.leaves)
    (c.index-nodes-i.is ∙ get_or_default ns i c.index-nodes-i.result nothing within) in (
      omega arith,
      omega (arith, within),
      rw add-one
          (c.before-all.ensures
          ∙ (λ j. both_of (c.loop-i.invariant.2 j) ((c.summary.ensures ∙ item) j))
          ∙ sym (summary_more _ ns i c.loop-i.invariant.0 within c.requires)),
    )

pub returns : goal.returns
returns c =
    c.loop-i.invariant.2
    ∙ ap (λ ns. summary_of (under ns)) (take_all c.loop-i.i c.args.nodes.now (omega (arith, c.loop-i-test.false)))
