use Rattle.std.proofs.Common.{◌≡◌, ◌<◌, ℕ, [], ◌∷◌, get_or, set, refl, sym, ap, ◌∙◌, subst, arith, rules}
use Rattle.std.specs.Vec.{with_item}
use Rattle.std.proofs.lemmas.List.{get_or_default}
use Rattle.record_key.specs.Lent.{op_lent}
use Rattle.record_key.specs.Table.{key_of}
use Rattle.dc_leaf.specs.Leaf.{LeafView, first, is_in_fences}
use Rattle.dc_tree.specs.Choosing.{summary_of}
use Rattle.dc_tree.specs.Nodes.{TreeNodeView, nothing, height_in, over_leaf, over_nodes, under, IsChild, IsWhole}
use Rattle.dc_tree.specs.Finding.{IsInside, IsNodeOf, IsPlaceOf}
use Rattle.dc_tree.specs.Performs.{IsAsked, IsAskedBelow}
use Rattle.dc_tree.specs.declared.tree.node.Below.TheVariants.{Inner}
use Rattle.dc_tree.specs.Below.{seen, IsNode}
use Rattle.dc_tree.proofs.Asking.{IsAfter, alone, leaf_asked, inner_asked, same_asked}
use Rattle.dc_tree.proofs.PlaceOf.{inside_of_nodes}
use Rattle.dc_tree.proofs.Quiet.{was_kept}
use Rattle.dc_tree.proofs.Whole.{all_get}
use Rattle.dc_tree.proofs.tree.node.Node.+perform_into.Goals as goal
use Rattle.dc_tree.proofs.tree.node.Node.+perform_into.Goals.{After-index_mut, Then-not-perform_into, After-renew_after}

pub perform-requires-clause-within : goal.perform-requires-clause-within
perform-requires-clause-within g t c =
    let same = ap seen (sym c.in-Leaf.is) ∙ c.self.view_is in
    let inside : IsInside (c.in-Leaf.leaf.value ∷ []) (key_of (op_lent c.args.op.now)) =
    subst (λ (n : TreeNodeView). IsInside n.leaves (key_of (op_lent c.args.op.now))) (sym same) c.requires.inside in
    ap (λ (leaf : LeafView). is_in_fences leaf (key_of (op_lent c.args.op.now))) c.deref_mut.ensures.value
    ∙ inside 0 (alone c.in-Leaf.leaf.value (key_of (op_lent c.args.op.now)))

pub returns-in-Leaf-clause-asked : goal.returns-in-Leaf-clause-asked
returns-in-Leaf-clause-asked g t c =
    let o = op_lent c.args.op.now in
    let told = g.S.AnswerSink.told c.perform.new.sink in
    subst (λ (n : TreeNodeView). IsAskedBelow n c.args.number o c.perform.result told (over_leaf c.perform.new.self))
    (ap seen (sym c.in-Leaf.is) ∙ c.self.view_is)
    (leaf_asked c.in-Leaf.leaf.value c.perform.new.self c.args.number o c.perform.result told
    (subst (λ (leaf : LeafView). IsAsked leaf c.perform.new.self c.args.number o c.perform.result told)
    c.deref_mut.ensures.value
    (record {
      done = c.perform.ensures.done;
      repeated = c.perform.ensures.repeated;
      refused = c.perform.ensures.refused;
    })))

module _ (g : _) (t : ℕ) (c : After-index_mut g t) where
  abbrev i : ℕ
  i = c.node_of-i.result

  kept : IsNode c.self.inside.low c.self.inside.count c.self.inside.summary (Inner c.in-Inner.children)
  kept = subst (IsNode c.self.inside.low c.self.inside.count c.self.inside.summary) c.in-Inner.is c.self.invariant

  same : over_nodes c.in-Inner.children.items ≡ c.args.self.now
  same = ap seen (sym c.in-Inner.is) ∙ c.self.view_is

  node : IsNodeOf c.in-Inner.children.items (key_of (op_lent c.args.op.now)) i
  node = rw (c.as_slice.ensures.value, c.key.ensures) at c.node_of-i.ensures

  child : c.index_mut.result.now ≡ get_or c.in-Inner.children.items i nothing
  child = c.index_mut.ensures.value
      ∙ get_or_default c.in-Inner.children.items i c.index_mut.result.now nothing node.there

  one : IsChild (height_in c.in-Inner.children.items) c.index_mut.result.now
  one = subst (IsChild (height_in c.in-Inner.children.items)) (sym child)
      (all_get _ c.in-Inner.children.items i nothing node.there kept.under_it.children)

  at_child : (q : ℕ) → IsPlaceOf c.index_mut.result.now.leaves (key_of (op_lent c.args.op.now)) q
      → IsPlaceOf (get_or c.in-Inner.children.items i nothing).leaves (key_of (op_lent c.args.op.now)) q
  at_child q at = subst (λ (n : TreeNodeView). IsPlaceOf n.leaves (key_of (op_lent c.args.op.now)) q) child at

  inside : IsInside c.index_mut.result.now.leaves (key_of (op_lent c.args.op.now))
  inside = λ q at.
      ap (λ (n : TreeNodeView). is_in_fences (get_or n.leaves q first) (key_of (op_lent c.args.op.now))) child
      ∙ inside_of_nodes _ c.in-Inner.children.items (key_of (op_lent c.args.op.now)) i q kept.under_it.children node
      (at_child q at)
      (subst (λ (n : TreeNodeView). IsInside n.leaves (key_of (op_lent c.args.op.now))) (sym same) c.requires.inside)

pub perform_into-requires : goal.perform_into-requires
perform_into-requires g t c =
    let lower : c.index_mut.result.now.height < c.args.self.now.height =
    omega (arith, (one g t c.before.before).level, ap (λ (n : TreeNodeView). n.height) (same g t c.before.before)) in
    let whole : IsWhole c.index_mut.result.now = (one g t c.before.before).whole in
    let there : IsInside c.index_mut.result.now.leaves (key_of (op_lent c.args.op.now)) = inside g t c.before.before in
    search rules

-- what the call leaves where the child's summary is as it was
after_same : (g : _) (t : ℕ) (c : Then-not-perform_into g t)
    → IsAfter c.self.inside.low c.self.inside.count c.self.inside.summary c.in-Inner.children
    (with_item c.in-Inner.children c.node_of-i.result c.perform_into.new.self) c.args.number (op_lent c.args.op.now)
    c.perform_into.new.done (g.S.AnswerSink.told c.perform_into.new.sink)
    × (summary_of (under (set c.in-Inner.children.items c.node_of-i.result c.perform_into.new.self))
    ≡ summary_of (under c.in-Inner.children.items))
after_same g t c =
    same_asked _ _ _ c.in-Inner.children _ c.node_of-i.result c.index_mut.result.now c.perform_into.new.self
    c.args.number (op_lent c.args.op.now) c.perform_into.new.done
    (g.S.AnswerSink.told c.perform_into.new.sink)
    (subst (IsNode c.self.inside.low c.self.inside.count c.self.inside.summary) c.in-Inner.is c.self.invariant)
    (rw (c.as_slice.ensures.value, c.key.ensures) at c.node_of-i.ensures)
    c.index_mut.ensures.value c.perform_into.ensures.asked refl refl
    (c.perform_into.ensures.same c.if-not-perform_into.true)

-- the children are whole still
pub renew_after-requires-clause-whole : goal.renew_after-requires-clause-whole
renew_after-requires-clause-whole g t c =
    rw c.as_slice-in-Inner.ensures.value
    (inner_asked _ _ _ _ c.in-Inner.children (with_item c.in-Inner.children c.node_of-i.result c.perform_into.new.self)
    c.node_of-i.result c.index_mut.result.now c.perform_into.new.self c.args.number (op_lent c.args.op.now)
    c.perform_into.new.done (g.S.AnswerSink.told c.perform_into.new.sink)
    (subst (IsNode c.self.inside.low c.self.inside.count c.self.inside.summary) c.in-Inner.is c.self.invariant)
    (rw (c.as_slice.ensures.value, c.key.ensures) at c.node_of-i.ensures)
    c.index_mut.ensures.value c.perform_into.ensures.asked refl refl refl).kept.under_it.children

-- before, another child stood where the one that was asked stands
pub renew_after-requires-clause-before : goal.renew_after-requires-clause-before
renew_after-requires-clause-before g t c =
    let ns = c.in-Inner.children.items in
    let kept : IsNode c.self.inside.low c.self.inside.count c.self.inside.summary (Inner c.in-Inner.children) =
    subst (IsNode c.self.inside.low c.self.inside.count c.self.inside.summary) c.in-Inner.is c.self.invariant in
    let node : IsNodeOf ns (key_of (op_lent c.args.op.now)) c.node_of-i.result =
    rw (c.as_slice.ensures.value, c.key.ensures) at c.node_of-i.ensures in
    rw (c.as_slice-in-Inner.ensures.value, kept.summed)
    (was_kept ns c.node_of-i.result c.perform_into.new.self
    (all_get _ ns c.node_of-i.result nothing node.there kept.under_it.children).whole.some)

-- and where it is another
after_renewed : (g : _) (t : ℕ) (c : After-renew_after g t)
    → IsAfter c.self.inside.low c.self.inside.count c.renew_after.new.summary c.in-Inner.children
    (with_item c.in-Inner.children c.node_of-i.result c.perform_into.new.self) c.args.number (op_lent c.args.op.now)
    c.perform_into.new.done (g.S.AnswerSink.told c.perform_into.new.sink)
after_renewed g t c =
    inner_asked _ _ _ _ c.in-Inner.children _ c.node_of-i.result c.index_mut.result.now c.perform_into.new.self
    c.args.number (op_lent c.args.op.now) c.perform_into.new.done
    (g.S.AnswerSink.told c.perform_into.new.sink)
    (subst (IsNode c.self.inside.low c.self.inside.count c.self.inside.summary) c.in-Inner.is c.self.invariant)
    (rw (c.as_slice.ensures.value, c.key.ensures) at c.node_of-i.ensures)
    c.index_mut.ensures.value c.perform_into.ensures.asked refl refl
    (c.renew_after.ensures.renewed ∙ ap (λ ns. summary_of (under ns)) c.as_slice-in-Inner.ensures.value)

pub invariant_of-self-then-not-perform_into : goal.invariant_of-self-then-not-perform_into
invariant_of-self-then-not-perform_into g t c = (after_same g t c).0.kept

pub invariant_of-self-in-Inner : goal.invariant_of-self-in-Inner
invariant_of-self-in-Inner g t c = (after_renewed g t c).kept

pub returns-then-not-perform_into-clause-asked : goal.returns-then-not-perform_into-clause-asked
returns-then-not-perform_into-clause-asked g t c =
    subst (λ (n : TreeNodeView). IsAskedBelow n c.args.number (op_lent c.args.op.now) c.perform_into.new.done
    (g.S.AnswerSink.told c.perform_into.new.sink)
    (over_nodes (set c.in-Inner.children.items c.node_of-i.result c.perform_into.new.self)))
    (ap seen (sym c.in-Inner.is) ∙ c.self.view_is) (after_same g t c).0.asked

pub returns-then-not-perform_into-clause-same : goal.returns-then-not-perform_into-clause-same
returns-then-not-perform_into-clause-same g t c =
    λ kept. (after_same g t c).1
    ∙ ap (λ (n : TreeNodeView). summary_of n.leaves) (ap seen (sym c.in-Inner.is) ∙ c.self.view_is)

pub returns-else-not-perform_into-clause-asked : goal.returns-else-not-perform_into-clause-asked
returns-else-not-perform_into-clause-asked g t c =
    subst (λ (n : TreeNodeView). IsAskedBelow n c.args.number (op_lent c.args.op.now) c.perform_into.new.done
    (g.S.AnswerSink.told c.perform_into.new.sink)
    (over_nodes (set c.in-Inner.children.items c.node_of-i.result c.perform_into.new.self)))
    (ap seen (sym c.in-Inner.is) ∙ c.self.view_is) (after_renewed g t c).asked
