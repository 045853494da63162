use Rattle.std.proofs.Common.{◌≡◌, ◌<◌, ◌+◌, ◌^◌, ℕ, suc, length, ◌++◌, sym, ap, ◌∙◌, subst, arith, rules, add-one, length-append}
use Rattle.std.specs.List.{insert}
use Rattle.std.specs.Option.{option_to_list}
use Rattle.std.proofs.lemmas.List.{get_or_default}
use Rattle.std.proofs.lemmas.List.Edits.{length-insert}
use Rattle.dc_tree.specs.Nodes.{TreeNodeView, nothing, under}
use Rattle.dc_tree.specs.Finding.{IsIn}
use Rattle.dc_tree.specs.Below.{seen, IsNode}
use Rattle.dc_tree.proofs.Changed.{goes_down}
use Rattle.dc_tree.proofs.Inserted.{inserted_one, inserted_two, count_two}
use Rattle.dc_tree.proofs.tree.node.Node.+insert.Goals as goal
use Rattle.dc_tree.proofs.tree.node.Node.+insert.Goals.{in-None, in-Some}

pub insert-requires : goal.insert-requires
insert-requires t c =
    let xs = c.in-Inner.children.items in
    let kept = subst (IsNode c.self.inside.low c.self.inside.count c.self.inside.summary) c.in-Inner.is
    c.self.invariant in
    let at : IsIn xs c.args.place c.node_at-i.result.0 c.node_at-i.result.1 =
    rw c.as_slice.ensures.value at c.node_at-i.ensures in
    let down = goes_down c.args.self.now c.index_mut.result.now c.args.place _ _ _ _ _ c.in-Inner.children
    (ap seen (sym c.in-Inner.is) ∙ c.self.view_is) kept at c.index_mut.ensures.value in
    let lower = down.lower in
    let within = down.within in
    let whole = down.whole in
    let fewer : length c.index_mut.result.now.leaves + 1 < 2 ^ 64 = omega (arith, down.fewer, c.requires.counted) in
    search rules

pub add-right-requires-clause-counted : goal.add-right-requires-clause-counted
add-right-requires-clause-counted t c =
    let xs = c.in-Inner.children.items in
    let is : under xs ≡ c.args.self.now.leaves =
    ap (λ (n : TreeNodeView). n.leaves) (ap seen (sym c.in-Inner.is) ∙ c.self.view_is) in
    let at : IsIn xs c.args.place c.node_at-i.result.0 c.node_at-i.result.1 =
    rw c.as_slice.ensures.value at c.node_at-i.ensures in
    let child = c.index_mut.ensures.value
    ∙ get_or_default xs c.node_at-i.result.0 c.index_mut.result.now nothing at.there in
    let more = count_two xs c.args.place c.node_at-i.result.0 c.node_at-i.result.1 at c.args.leaf.value
    c.insert.new.self c.in-Some.node
    (rw child at c.in-Some.ensures.leaves) in
    omega (arith, more, ap length is, c.requires.counted)

leaves : (t : ℕ) (c : goal.After-as_slice-in-Inner-2 t)
    → under c.match-insert.children.items ++ under (option_to_list c.match-insert.right)
    ≡ insert c.args.self.now.leaves (suc c.args.place) c.args.leaf.value
leaves t c =
    let xs = c.in-Inner.children.items in
    let is : under xs ≡ c.args.self.now.leaves =
    ap (λ (n : TreeNodeView). n.leaves) (ap seen (sym c.in-Inner.is) ∙ c.self.view_is) in
    let i = c.node_at-i.result.0 in
    let rest = c.node_at-i.result.1 in
    let at : IsIn xs c.args.place i rest = rw c.as_slice.ensures.value at c.node_at-i.ensures in
    let child = c.index_mut.ensures.value ∙ get_or_default xs i c.index_mut.result.now nothing at.there in
    elim c.match-insert.branch [
      | in-None w ↦
          rw (w.children-is, w.right-is, ← is)
          (inserted_one xs c.args.place i rest at c.args.leaf.value c.insert.new.self
          (rw child at w.in-None.ensures.leaves))
      | in-Some w ↦
          rw (w.children-is, w.right-is, ← is)
          (w.add-right.ensures.leaves
          ∙ rw add-one (inserted_two xs c.args.place i rest at c.args.leaf.value c.insert.new.self w.in-Some.node
          (rw child at w.in-Some.ensures.leaves)))
    ]

pub count_in-self-inside-requires : goal.count_in-self-inside-requires
count_in-self-inside-requires t c =
    let all = ap length (leaves t c) in
    let one = length-insert c.args.self.now.leaves (suc c.args.place) c.args.leaf.value
    (omega (arith, c.requires.there)) in
    rw c.as_slice-in-Inner-2.ensures.value
    (omega (
      arith,
      all,
      one,
      c.requires.counted,
      length-append (under c.match-insert.children.items) (under (option_to_list c.match-insert.right)),
    ))

pub returns-after-insert-clause-leaves : goal.returns-after-insert-clause-leaves
returns-after-insert-clause-leaves t c = leaves t c.before.before.before.before
