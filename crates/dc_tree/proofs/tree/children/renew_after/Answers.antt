use Rattle.std.proofs.Common.{◌≡◌, true, ◌-◌, ◌<◌, length, sym, ap, ◌∙◌, arith}
use Rattle.std.proofs.lemmas.List.{get_or_default}
use Rattle.dc_tree.specs.Choosing.{extent_first, extent_last, summary_of, is_quiet}
use Rattle.dc_tree.specs.Nodes.{TreeNodeView, nothing, under}
use Rattle.dc_tree.proofs.Quiet.{quiet_none, first_below, last_below, still_quiet}
use Rattle.dc_tree.proofs.tree.children.renew_after.Goals as goal

pub returns-then-is_quiet_at-clause-renewed : goal.returns-then-is_quiet_at-clause-renewed
returns-then-is_quiet_at-clause-renewed c =
    let ns = c.args.nodes.now in
    let quiet : is_quiet c.args.summary.now ≡ true = sym c.is_quiet.ensures ∙ c.if-is_quiet.true in
    let still : is_quiet (summary_of (under ns)) ≡ true =
    still_quiet _ ns c.args.changed c.requires.there c.requires.whole c.args.summary.now c.requires.before quiet
    (c.is_quiet_at.ensures c.if-is_quiet_at.true) in
    let was = quiet_none c.args.summary.now quiet in
    let is = quiet_none (summary_of (under ns)) still in
    let some : 0 < length ns = omega (arith, c.requires.there) in
    let first : c.summary-then-is_quiet_at.result.first ≡ extent_first (under ns) =
    ap (λ s. s.first) c.summary-then-is_quiet_at.ensures
    ∙ ap (λ (n : TreeNodeView). extent_first n.leaves)
    (c.index-nodes-0.is ∙ get_or_default ns 0 c.index-nodes-0.result nothing some)
    ∙ sym (first_below _ ns some c.requires.whole) in
    let last : c.summary.result.last ≡ extent_last (under ns) =
    ap (λ s. s.last) c.summary.ensures
    ∙ ap (λ (n : TreeNodeView). extent_last n.leaves)
    (c.index-nodes-nodes.is
    ∙ get_or_default ns (length ns - 1) c.index-nodes-nodes.result nothing (omega (arith, some)))
    ∙ sym (last_below _ ns some c.requires.whole) in
    c.renew_ends.ensures.ends
    ∙ (λ i. record {
      large = (was.0 ∙ sym is.0) i;
      pair = (was.1 ∙ sym is.1) i;
      first = first i;
      last = last i;
    })
