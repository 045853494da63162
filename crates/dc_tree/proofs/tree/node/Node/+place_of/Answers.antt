use Rattle.std.proofs.Common.{◌≡◌, ◌<◌, ◌^◌, ℕ, length, get_or, take, sym, ap, ◌∙◌, subst, arith}
use Rattle.std.proofs.lemmas.List.{get_or_default}
use Rattle.dc_tree.specs.Nodes.{TreeNodeView, nothing, under}
use Rattle.dc_tree.specs.Finding.{IsNodeOf, IsPlaceOf}
use Rattle.dc_tree.specs.declared.tree.node.Below.TheVariants.{Inner}
use Rattle.dc_tree.specs.Below.{seen, IsNode}
use Rattle.dc_tree.proofs.PlaceOf.{place_within, place_of_nodes}
use Rattle.dc_tree.proofs.Under.{count_halves}
use Rattle.dc_tree.proofs.tree.node.Node.+place_of.Goals as goal
use Rattle.dc_tree.proofs.tree.node.Node.+place_of.Goals.{After-place_of}

module _ (t : ℕ) (c : After-place_of t) where
  abbrev ns : Rattle.std.proofs.Common.List TreeNodeView
  ns = c.in-Inner.children.items

  kept : IsNode c.self.inside.low c.self.inside.count c.self.inside.summary (Inner c.in-Inner.children)
  kept = subst (IsNode c.self.inside.low c.self.inside.count c.self.inside.summary) c.in-Inner.is c.self.invariant

  node : IsNodeOf ns c.args.key.now c.node_of-i.result
  node = rw c.as_slice.ensures.value at c.node_of-i.ensures

  at : IsPlaceOf (get_or ns c.node_of-i.result nothing).leaves c.args.key.now c.place_of.result
  at =
      let child = c.index.ensures ∙ get_or_default ns c.node_of-i.result c.index.result.now nothing node.there in
      subst (λ (n : TreeNodeView). IsPlaceOf n.leaves c.args.key.now c.place_of.result) child c.place_of.ensures

pub count_in-before-requires : goal.count_in-before-requires
count_in-before-requires t c =
    let kept = subst (IsNode c.self.inside.low c.self.inside.count c.self.inside.summary) c.in-Inner.is
    c.self.invariant in
    let counted : length (under (take c.node_of-i.result c.in-Inner.children.items)) < 2 ^ 64 =
    omega (arith, count_halves c.in-Inner.children.items c.node_of-i.result, kept.counted, kept.fits) in
    rw c.deref.ensures.value counted

pub overflow_add-result : goal.overflow_add-result
overflow_add-result t c =
    let before = rw c.deref.ensures.value at c.count_in-before.ensures in
    let within = place_within _ (ns t c) c.args.key.now c.node_of-i.result c.place_of.result
    (kept t c).under_it.children (node t c) (at t c) in
    omega (arith, before, within, (kept t c).counted, (kept t c).fits)

pub returns-in-Inner : goal.returns-in-Inner
returns-in-Inner t c =
    let before = rw c.deref.ensures.value at c.count_in-before.ensures in
    let is : seen (Inner c.in-Inner.children) ≡ c.args.self.now = ap seen (sym c.in-Inner.is) ∙ c.self.view_is in
    rw (before, ← is) (place_of_nodes _ (ns t c) c.args.key.now c.node_of-i.result c.place_of.result
    (kept t c).under_it.children (node t c) (at t c))
