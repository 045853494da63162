use Rattle.std.proofs.Common.{ℕ, get_or, refl, sym, ap, ◌∙◌, subst}
use Rattle.std.specs.Vec.{with_item}
use Rattle.dc_leaf.specs.Leaf.{LeafView, first}
use Rattle.dc_leaf.specs.Parting.{lower_of}
use Rattle.dc_tree.specs.Choosing.{summary_of}
use Rattle.dc_tree.specs.Nodes.{TreeNodeView, IsChangedAt, under}
use Rattle.dc_tree.specs.Finding.{IsIn}
use Rattle.dc_tree.specs.declared.tree.node.Below.TheVariants.{Inner}
use Rattle.dc_tree.specs.Below.{seen, IsNode}
use Rattle.dc_tree.proofs.Changed.{IsChanged, goes_down, inner_changed}
use Rattle.dc_tree.proofs.tree.node.Node.+drop_from.Goals as goal
use Rattle.dc_tree.proofs.tree.node.Node.+drop_from.Goals.{After-summary_in-self-inside}

-- what the call leaves where there are nodes below
change : (t : ℕ) (c : After-summary_in-self-inside t)
    → IsChanged c.args.place c.self.inside.low c.self.inside.count c.summary_in-self-inside.result
    (Inner c.in-Inner.children)
    (Inner (with_item c.in-Inner.children c.node_at-i.result.0 c.drop_from-in-Inner.new.self))
    (lower_of (get_or c.args.self.now.leaves c.args.place first) c.args.key.now c.args.last)
change t c =
    let after : LeafView → LeafView = λ (leaf : LeafView). lower_of leaf c.args.key.now c.args.last in
    let xs = c.in-Inner.children in
    let kept = subst (IsNode c.self.inside.low c.self.inside.count c.self.inside.summary) c.in-Inner.is
    c.self.invariant in
    let at : IsIn xs.items c.args.place c.node_at-i.result.0 c.node_at-i.result.1 =
    rw c.as_slice.ensures.value at c.node_at-i.ensures in
    let down = goes_down c.args.self.now c.index_mut.result.now c.args.place _ _ _ _ _ xs
    (ap seen (sym c.in-Inner.is) ∙ c.self.view_is) kept at c.index_mut.ensures.value in
    let new = with_item xs c.node_at-i.result.0 c.drop_from-in-Inner.new.self in
    subst (IsChanged c.args.place c.self.inside.low c.self.inside.count c.summary_in-self-inside.result (Inner xs)
    (Inner new)) (c.drop_from-in-Inner.ensures.lower ∙ ap after (sym down.leaf))
    (inner_changed c.args.place _ _ _ _ _ _ xs new c.index_mut.result.now c.drop_from-in-Inner.new.self kept at
    c.index_mut.ensures.value c.drop_from-in-Inner.ensures.changed refl refl
    (c.summary_in-self-inside.ensures ∙ ap (λ ns. summary_of (under ns)) c.as_slice-in-Inner.ensures.value))

pub invariant_of-self-in-Inner : goal.invariant_of-self-in-Inner
invariant_of-self-in-Inner t c = (change t c.before).kept

pub returns-in-Inner-clause-changed : goal.returns-in-Inner-clause-changed
returns-in-Inner-clause-changed t c =
    subst (λ (n : TreeNodeView). IsChangedAt c.args.place n
    (seen (Inner (with_item c.in-Inner.children c.node_at-i.result.0 c.drop_from-in-Inner.new.self))))
    (ap seen (sym c.in-Inner.is) ∙ c.self.view_is) (change t c.before).changed

pub returns-in-Inner-clause-lower : goal.returns-in-Inner-clause-lower
returns-in-Inner-clause-lower t c = (change t c.before).leaf
