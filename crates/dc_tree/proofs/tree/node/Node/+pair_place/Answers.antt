use Rattle.std.proofs.Common.{ap, ◌∙◌, sym, subst, arith}
use Rattle.std.specs.Option.{is_some}
use Rattle.std.proofs.lemmas.List.{get_or_default}
use Rattle.dc_tree.specs.Choosing.{first_pair}
use Rattle.dc_tree.specs.Nodes.{TreeNodeView, nothing}
use Rattle.dc_tree.specs.Finding.{IsPairIn}
use Rattle.dc_tree.specs.Below.{IsNode}
use Rattle.dc_tree.proofs.Firsts.{pair_within}
use Rattle.dc_tree.proofs.tree.node.Node.+pair_place.Goals as goal

pub overflow_add-result : goal.overflow_add-result
overflow_add-result t c =
    let ns = c.in-Inner.children.items in
    let kept = subst (IsNode c.self.inside.low c.self.inside.count c.self.inside.summary) c.in-Inner.is
    c.self.invariant in
    let found : IsPairIn c.args.known ns c.pair_in-i.result.0 c.pair_in-i.result.1 =
    rw c.as_slice.ensures.value at c.pair_in-i.ensures in
    let child =
    c.index-child.ensures ∙ get_or_default ns c.pair_in-i.result.0 c.index-child.result.now nothing found.there in
    let is = found.inside c.pair_place.result
    (ap (λ (n : TreeNodeView). first_pair c.args.known n.leaves) (sym child) ∙ c.pair_place.ensures) in
    omega (arith, pair_within c.args.known _ _ is, kept.counted, kept.fits)

pub overflow_add-result-else-has_pair : goal.overflow_add-result-else-has_pair
overflow_add-result-else-has_pair t c =
    let ns = c.in-Inner.children.items in
    let kept = subst (IsNode c.self.inside.low c.self.inside.count c.self.inside.summary) c.in-Inner.is
    c.self.invariant in
    let found : IsPairIn c.args.known ns c.pair_in-i.result.0 c.pair_in-i.result.1 =
    rw c.as_slice.ensures.value at c.pair_in-i.ensures in
    let child =
    c.index-child.ensures ∙ get_or_default ns c.pair_in-i.result.0 c.index-child.result.now nothing found.there in
    let none = ap (λ (n : TreeNodeView). is_some (first_pair c.args.known n.leaves)) (sym child)
    ∙ sym c.has_pair.ensures ∙ c.if-has_pair.false in
    let many = c.count.ensures ∙ ap (λ (n : TreeNodeView). Rattle.std.proofs.Common.length n.leaves) child in
    omega (arith, pair_within c.args.known _ _ (found.across none), many, kept.counted, kept.fits)
