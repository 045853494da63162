use Rattle.std.proofs.Common.{◌≡◌, ◌<◌, ◌+◌, ℕ, List, [], ◌∷◌, length, get_or, set, refl, sym, ap, ◌∙◌, subst, arith, add-one}
use Rattle.std.specs.Box.{with_value}
use Rattle.std.proofs.lemmas.List.{length-set, get_or-set_other}
use Rattle.dc_leaf.specs.Leaf.{LeafView, raised_to}
use Rattle.dc_tree.specs.Choosing.{summary_of}
use Rattle.dc_tree.specs.Nodes.{TreeNodeView, raised_node, under}
use Rattle.dc_tree.specs.declared.tree.node.Below.TheVariants.{Leaf, Inner}
use Rattle.dc_tree.specs.declared.tree.summary.Summary.{Summary}
use Rattle.dc_tree.specs.Below.{seen, IsNode}
use Rattle.dc_tree.proofs.Raised.{IsRaised, leaf_raised, inner_raised}
use Rattle.dc_tree.proofs.Raising.{each_below, each_all, each_next}
use Rattle.dc_tree.proofs.tree.node.Node.+raise.Goals as goal

pub loop-i-init : goal.loop-i-init
loop-i-init t c = (refl, refl, (refl, λ k d le. refl))

pub loop-i-preserved : goal.loop-i-preserved
loop-i-preserved t c =
    let xs = c.in-Inner.children.items in
    let ys = c.loop-i.children.items in
    let i = c.loop-i.i in
    let f = raised_node c.args.low in
    let n = c.index_mut.result.now in
    let within : i < length xs = omega (arith, c.loop-i-test.true, c.len-i-end.ensures) in
    let next : set ys i c.raise-in-loop-i.new.self ≡ each_below f (i + 1) xs =
    rw add-one
    (ap (λ (m : TreeNodeView). set ys i m) (c.raise-in-loop-i.ensures ∙ ap f c.index_mut.ensures.value)
    ∙ ap (λ (ns : List TreeNodeView). set ns i (f (get_or ns i n))) c.loop-i.invariant.0
    ∙ each_next f i xs n within) in (
      next,
      c.loop-i.invariant.1,
      (
        length-set ys i c.raise-in-loop-i.new.self ∙ c.loop-i.invariant.2.0,
        λ k d le. get_or-set_other ys i k c.raise-in-loop-i.new.self d (λ same. absurd (omega (arith, le, same)))
            ∙ c.loop-i.invariant.2.1 k d (omega (arith, le)),
      ),
    )

-- what the call leaves where there are nodes below
raised : (t : ℕ) (c : goal.After-as_slice t) (summary : Summary) → summary ≡ summary_of (under c.loop-i.children.items)
    → IsRaised c.args.low c.self.inside.low c.self.inside.count summary (Inner c.in-Inner.children)
    (Inner c.loop-i.children)
raised t c summary summed =
    let xs = c.in-Inner.children in
    let kept = subst (IsNode c.self.inside.low c.self.inside.count c.self.inside.summary) c.in-Inner.is
    c.self.invariant in
    let end : c.loop-i.i ≡ length xs.items =
    omega (arith, c.loop-i-test.false, c.loop-i.auto.i-end, c.len-i-end.ensures) in
    let all = c.loop-i.invariant.0 ∙ ap (λ (i : ℕ). each_below (raised_node c.args.low) i xs.items) end
    ∙ each_all (raised_node c.args.low) xs.items in
    inner_raised c.args.low c.self.inside.low c.self.inside.count c.self.inside.summary summary xs c.loop-i.children kept
    all c.loop-i.invariant.1 summed

pub summary_in-self-inside-requires : goal.summary_in-self-inside-requires
summary_in-self-inside-requires t c = rw c.as_slice.ensures.value (raised t c _ refl).kept.under_it.children

pub invariant_of-self-in-Inner : goal.invariant_of-self-in-Inner
invariant_of-self-in-Inner t c =
    (raised t c.before.before c.summary_in-self-inside.result
    (c.summary_in-self-inside.ensures ∙ ap (λ ns. summary_of (under ns)) c.as_slice.ensures.value)).kept

-- and where there is a leaf
leaf_after : (t : ℕ) (c : goal.After-self-in-Leaf-1 t)
    → IsRaised c.args.low c.self.inside.low c.self.inside.count c.of_leaf-self-inside.result (Leaf c.in-Leaf.leaf)
    (Leaf (with_value c.in-Leaf.leaf c.raise.new.self))
leaf_after t c =
    leaf_raised c.args.low c.self.inside.low c.self.inside.count c.self.inside.summary c.of_leaf-self-inside.result
    c.in-Leaf.leaf (with_value c.in-Leaf.leaf c.raise.new.self)
    (subst (IsNode c.self.inside.low c.self.inside.count c.self.inside.summary) c.in-Leaf.is c.self.invariant)
    (c.raise.ensures ∙ ap (λ (leaf : LeafView). raised_to leaf c.args.low) c.deref_mut.ensures.value)
    (c.of_leaf-self-inside.ensures ∙ ap (λ (leaf : LeafView). summary_of (leaf ∷ [])) c.deref.ensures)

pub invariant_of-self : goal.invariant_of-self
invariant_of-self t c = (leaf_after t c).kept

pub returns-in-Leaf : goal.returns-in-Leaf
returns-in-Leaf t c =
    (leaf_after t c).raised ∙ ap (raised_node c.args.low) (ap seen (sym c.in-Leaf.is) ∙ c.self.view_is)

pub returns-after-loop-i : goal.returns-after-loop-i
returns-after-loop-i t c =
    (raised t c.before.before _ refl).raised
    ∙ ap (raised_node c.args.low) (ap seen (sym c.in-Inner.is) ∙ c.self.view_is)
