use Rattle.dc_tree.specs.Lists.{leaves_in}
use Rattle.dc_tree.proofs.Stays.{raised_stays}
use Rattle.dc_tree.proofs.list.LeafListLeafSet.raise.Goals as goal

pub invariant_of-self : goal.invariant_of-self
invariant_of-self c = rw c.raise_in.ensures
    (raised_stays (leaves_in c.self.inside.leaves.items) c.args.low c.self.invariant).leaves
