use Rattle.std.proofs.Common.{◌<◌, ◌^◌, ℕ, refl, sym, ap, ◌∙◌, subst, rules}
use Rattle.std.specs.Vec.{with_item}
use Rattle.dc_leaf.specs.Leaf.{LeafView}
use Rattle.dc_tree.specs.Choosing.{summary_of}
use Rattle.dc_tree.specs.Nodes.{TreeNodeView, IsChangedAt, under}
use Rattle.dc_tree.specs.Finding.{IsIn}
use Rattle.dc_tree.specs.declared.tree.node.Below.TheVariants.{Inner}
use Rattle.dc_tree.specs.Below.{seen, IsNode}
use Rattle.dc_tree.proofs.Changed.{IsChanged, goes_down, inner_changed}
use Rattle.dc_tree.proofs.tree.node.Node.+put.Goals as goal
use Rattle.dc_tree.proofs.tree.node.Node.+put.Goals.{After-summary_in-self-inside}

pub put-requires : goal.put-requires
put-requires t c =
    let kept = subst (IsNode c.self.inside.low c.self.inside.count c.self.inside.summary) c.in-Inner.is
    c.self.invariant in
    let at : IsIn c.in-Inner.children.items c.args.place c.node_at-i.result.0 c.node_at-i.result.1 =
    rw c.as_slice.ensures.value at c.node_at-i.ensures in
    let down = goes_down c.args.self.now c.index_mut.result.now c.args.place _ _ _ _ _ c.in-Inner.children
    (ap seen (sym c.in-Inner.is) ∙ c.self.view_is) kept at c.index_mut.ensures.value in
    let lower = down.lower in
    let within = down.within in
    let begins = c.requires.begins ∙ ap (λ (l : LeafView). l.low_fence) down.leaf in
    search rules

-- what the call leaves where there are nodes below
change : (t : ℕ) (c : After-summary_in-self-inside t)
    → IsChanged c.args.place c.self.inside.low c.self.inside.count c.summary_in-self-inside.result
    (Inner c.in-Inner.children)
    (Inner (with_item c.in-Inner.children c.node_at-i.result.0 c.put.new.self)) c.args.leaf.value
change t c =
    let xs = c.in-Inner.children in
    let kept = subst (IsNode c.self.inside.low c.self.inside.count c.self.inside.summary) c.in-Inner.is
    c.self.invariant in
    let at : IsIn xs.items c.args.place c.node_at-i.result.0 c.node_at-i.result.1 =
    rw c.as_slice.ensures.value at c.node_at-i.ensures in
    let new = with_item xs c.node_at-i.result.0 c.put.new.self in
    subst (IsChanged c.args.place c.self.inside.low c.self.inside.count c.summary_in-self-inside.result (Inner xs)
    (Inner new)) c.put.ensures.put
    (inner_changed c.args.place _ _ _ _ _ _ xs new c.index_mut.result.now c.put.new.self kept at
    c.index_mut.ensures.value c.put.ensures.changed refl refl
    (c.summary_in-self-inside.ensures ∙ ap (λ ns. summary_of (under ns)) c.as_slice-in-Inner.ensures.value))

pub invariant_of-self-in-Inner : goal.invariant_of-self-in-Inner
invariant_of-self-in-Inner t c = (change t c.before).kept

pub returns-in-Inner-clause-changed : goal.returns-in-Inner-clause-changed
returns-in-Inner-clause-changed t c =
    subst (λ (n : TreeNodeView). IsChangedAt c.args.place n
    (seen (Inner (with_item c.in-Inner.children c.node_at-i.result.0 c.put.new.self))))
    (ap seen (sym c.in-Inner.is) ∙ c.self.view_is) (change t c.before).changed

pub returns-in-Inner-clause-put : goal.returns-in-Inner-clause-put
returns-in-Inner-clause-put t c = (change t c.before).leaf

pub returns-in-Inner-clause-counted : goal.returns-in-Inner-clause-counted
returns-in-Inner-clause-counted t c =
    subst (λ (n : ℕ). n < 2 ^ 64) (change t c.before).kept.counted (change t c.before).kept.fits
