use Rattle.std.proofs.Common.{◌≤◌, ℕ, length, ap, ◌∙◌, sym, subst, arith}
use Rattle.std.proofs.lemmas.Bool.{eqb-true}
use Rattle.std.proofs.lemmas.List.Edits.{length-remove}
use Rattle.std.specs.List.{remove}
use Rattle.dc_tree.specs.Nodes.{TreeNodeView, height_in, over_nodes, AreChildren, IsChild, IsReduced}
use Rattle.dc_tree.specs.Finding.{IsIn}
use Rattle.dc_tree.specs.Below.{seen, IsNode}
use Rattle.dc_tree.proofs.AtPlace.{place_there}
use Rattle.dc_tree.proofs.Removed.{AreReduced, count_reduced, without_leaf, without_node, reduced_over, count_fewer}
use Rattle.dc_tree.proofs.Whole.{all_get, all_removed}
use Rattle.dc_tree.proofs.tree.node.Node.+remove.Goals as goal
use Rattle.dc_tree.proofs.tree.node.Node.+remove.Goals.{then-not-is_leaf, else-not-is_leaf}

pub put_reduced-requires-clause-counted : goal.put_reduced-requires-clause-counted
put_reduced-requires-clause-counted t c =
    let xs = c.in-Inner.children.items in
    let kept = subst (IsNode c.self.inside.low c.self.inside.count c.self.inside.summary) c.in-Inner.is
    c.self.invariant in
    let at : IsIn xs c.args.place c.node_at-i.result.0 c.node_at-i.result.1 =
    rw c.as_slice.ensures.value at c.node_at-i.ensures in
    let left = count_reduced xs c.args.place c.node_at-i.result.0 c.node_at-i.result.1 at c.remove-child.result
    c.remove-child.ensures.value c.remove.new.self c.remove.ensures.leaves in
    rw c.remove-child.ensures.items (omega (arith, left, kept.counted, kept.fits))

are_reduced : (t : ℕ) (c : goal.After-as_slice-in-Inner-2 t)
    → AreReduced c.in-Inner.children.items c.args.place c.if-not-is_leaf.children.items
are_reduced t c =
    let xs = c.in-Inner.children.items in
    let h = height_in xs in
    let i = c.node_at-i.result.0 in
    let rest = c.node_at-i.result.1 in
    let kept = subst (IsNode c.self.inside.low c.self.inside.count c.self.inside.summary) c.in-Inner.is
    c.self.invariant in
    let at : IsIn xs c.args.place i rest = rw c.as_slice.ensures.value at c.node_at-i.ensures in
    let many : 2 ≤ length xs =
    subst (λ (n : TreeNodeView). 2 ≤ n.kids) (sym (ap seen (sym c.in-Inner.is) ∙ c.self.view_is))
    (c.requires.whole.two c.requires.inner) in
    let child : IsChild h c.remove-child.result =
    subst (IsChild h) (sym c.remove-child.ensures.value)
    (all_get (IsChild h) xs i c.remove-child.result at.there kept.under_it.children) in
    elim c.if-not-is_leaf.branch [
      | then-not-is_leaf w ↦ rw w.children-is (record {
        leaves =
            w.put_reduced.ensures.leaves
            ∙ rw c.remove-child.ensures.items
            (without_leaf xs c.args.place i rest at c.remove-child.result c.remove-child.ensures.value
            w.remove.new.self w.remove.ensures.leaves);
        children = subst (λ (k : ℕ). AreChildren k w.put_reduced.new.children.items)
            (w.remove.ensures.reduced.level ∙ child.level) w.put_reduced.ensures.children;
        some = w.put_reduced.ensures.some;
        most = w.put_reduced.ensures.most;
      })
      | else-not-is_leaf w ↦
          let level = eqb-true c.remove-child.result.height 0 (sym c.is_leaf.ensures ∙ w.if-not-is_leaf.false) in
          let fewer = length-remove xs i at.there in
          rw (w.children-is, c.remove-child.ensures.items) (record {
            leaves = without_node xs c.args.place i rest at c.remove-child.result c.remove-child.ensures.value
                (child.whole.one level);
            children = all_removed (IsChild h) xs i kept.under_it.children;
            some = omega (arith, fewer, many);
            most = omega (arith, fewer, kept.under_it.most);
          })
    ]

pub count_in-self-inside-requires : goal.count_in-self-inside-requires
count_in-self-inside-requires t c =
    let xs = c.in-Inner.children.items in
    let kept = subst (IsNode c.self.inside.low c.self.inside.count c.self.inside.summary) c.in-Inner.is
    c.self.invariant in
    let at : IsIn xs c.args.place c.node_at-i.result.0 c.node_at-i.result.1 =
    rw c.as_slice.ensures.value at c.node_at-i.ensures in
    let fewer = count_fewer xs c.args.place c.if-not-is_leaf.children.items (are_reduced t c)
    (place_there xs c.args.place c.node_at-i.result.0 c.node_at-i.result.1 at) in
    rw c.as_slice-in-Inner-2.ensures.value (omega (arith, fewer, kept.counted, kept.fits))

pub returns-clause-leaves : goal.returns-clause-leaves
returns-clause-leaves t c =
    let same = ap seen (sym c.in-Inner.is) ∙ c.self.view_is in
    (are_reduced t c.before.before.before.before.before).leaves
    ∙ ap (λ (n : TreeNodeView). remove n.leaves c.args.place) same

pub returns-clause-reduced : goal.returns-clause-reduced
returns-clause-reduced t c =
    let same = ap seen (sym c.in-Inner.is) ∙ c.self.view_is in
    subst (λ (n : TreeNodeView). IsReduced n.height (over_nodes c.if-not-is_leaf.children.items)) same
    (reduced_over c.in-Inner.children.items c.args.place c.if-not-is_leaf.children.items
    (are_reduced t c.before.before.before.before.before))
