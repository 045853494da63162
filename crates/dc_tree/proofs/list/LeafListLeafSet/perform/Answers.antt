use Rattle.record_key.specs.Lent.{op_lent}
use Rattle.dc_tree.proofs.Stays.{asked_leaves}
use Rattle.dc_tree.proofs.list.LeafListLeafSet.perform.Goals as goal

pub invariant_of-self : goal.invariant_of-self
invariant_of-self g c =
    asked_leaves _ _ c.args.number (op_lent c.args.op.now) c.perform_in.result _ c.perform_in.ensures.done
    c.perform_in.ensures.refused c.self.invariant
