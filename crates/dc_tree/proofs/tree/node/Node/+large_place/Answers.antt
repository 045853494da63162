use Rattle.std.proofs.Common.{ap, ◌∙◌, sym, subst, arith}
use Rattle.std.proofs.lemmas.List.{get_or_default}
use Rattle.dc_tree.specs.Choosing.{first_large}
use Rattle.dc_tree.specs.Nodes.{TreeNodeView, nothing}
use Rattle.dc_tree.specs.Finding.{IsLargeIn}
use Rattle.dc_tree.specs.Below.{IsNode}
use Rattle.dc_tree.proofs.Firsts.{large_within}
use Rattle.dc_tree.proofs.tree.node.Node.+large_place.Goals as goal

pub overflow_add-result : goal.overflow_add-result
overflow_add-result t c =
    let ns = c.in-Inner.children.items in
    let kept = subst (IsNode c.self.inside.low c.self.inside.count c.self.inside.summary) c.in-Inner.is
    c.self.invariant in
    let found : IsLargeIn c.args.known ns c.large_in-i.result.0 c.large_in-i.result.1 =
    rw c.as_slice.ensures.value at c.large_in-i.ensures in
    let child = c.index.ensures ∙ get_or_default ns c.large_in-i.result.0 c.index.result.now nothing found.there in
    let is = found.is c.large_place.result
    (ap (λ (n : TreeNodeView). first_large c.args.known n.leaves) (sym child) ∙ c.large_place.ensures) in
    omega (arith, large_within c.args.known _ _ is, kept.counted, kept.fits)
