use Rattle.std.proofs.Common.{IfOk, ap, ◌∙◌}
use Rattle.record_key.specs.Lent.{op_lent}
use Rattle.record_key.specs.Table.{key_of}
use Rattle.dc_ab_lsn.specs.AbLsn.{captures}
use Rattle.dc_leaf.specs.Leaf.{LeafView, is_in_fences}
use Rattle.dc_tree.specs.Leaves.{leaf_at}
use Rattle.dc_tree.specs.Lists.{ListView}
use Rattle.dc_tree.specs.Performs.{PerformsAt}
use Rattle.dc_tree.proofs.AtKey.{within_at}
use Rattle.dc_tree.proofs.Among.{leaf_found, performs_among, unchanged_among}
use Rattle.dc_tree.proofs.Changed.{still_whole}
use Rattle.dc_tree.proofs.Stays.{asked_leaves}
use Rattle.dc_tree.proofs.tree.TreeLeafSet.perform.Goals as goal

pub perform-requires-clause-inside : goal.perform-requires-clause-inside
perform-requires-clause-inside g c = λ place at.
    let leaves = c.self.inside.root.leaves in
    let k = key_of (op_lent c.args.op.now) in
    ap (λ (leaf : LeafView). is_in_fences leaf k) (leaf_found leaves k place c.self.invariant.0 at)
    ∙ within_at leaves k c.self.invariant.0

done : (g : _) (c : goal.After-perform g)
    → IfOk c.perform.result
    (λ done. PerformsAt c.self.inside.root.leaves c.args.number (op_lent c.args.op.now) done
    (g.S.AnswerSink.told c.perform.new.sink) c.perform.new.self.leaves)
done g c =
    let below = c.perform.ensures.asked in
    performs_among below.place c.self.inside.root c.perform.new.self c.args.number (op_lent c.args.op.now)
    c.perform.result _ c.self.invariant.0 below.at below.changed below.asked.done

pub invariant_of-self : goal.invariant_of-self
invariant_of-self g c =
    let below = c.perform.ensures.asked in
    let refused =
    unchanged_among below.place c.self.inside.root c.perform.new.self c.perform.result below.changed
    below.asked.refused in (
      asked_leaves c.self.inside.root.leaves c.perform.new.self.leaves c.args.number (op_lent c.args.op.now)
          c.perform.result _ (done g c) refused c.self.invariant.0,
      still_whole below.place c.self.inside.root c.perform.new.self below.changed c.self.invariant.1,
      c.self.invariant.2,
    )

pub returns-clause-done : goal.returns-clause-done
returns-clause-done g c = rw (← c.self.view_is) (done g c)

pub returns-clause-repeated : goal.returns-clause-repeated
returns-clause-repeated g c captured =
    let below = c.perform.ensures.asked in
    let k = key_of (op_lent c.args.op.now) in
    below.asked.repeated
    (ap (λ (leaf : LeafView). captures leaf.ab c.args.number)
    (leaf_found c.self.inside.root.leaves k below.place c.self.invariant.0 below.at)
    ∙ ap (λ (t : ListView). captures (leaf_at t.leaves k).ab c.args.number) c.self.view_is ∙ captured)
