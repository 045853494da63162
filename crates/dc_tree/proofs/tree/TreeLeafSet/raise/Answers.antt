use Rattle.std.proofs.Common.{sym, subst}
use Rattle.dc_tree.specs.Leaves.{AreLeaves}
use Rattle.dc_tree.specs.Nodes.{TreeNodeView, IsWhole}
use Rattle.dc_tree.proofs.Raised.{whole_raised}
use Rattle.dc_tree.proofs.Stays.{raised_stays}
use Rattle.dc_tree.proofs.tree.TreeLeafSet.raise.Goals as goal

pub invariant_of-self : goal.invariant_of-self
invariant_of-self c = (
  subst (λ (n : TreeNodeView). AreLeaves n.leaves) (sym c.raise.ensures)
      (raised_stays c.self.inside.root.leaves c.args.low c.self.invariant.0).leaves,
  subst IsWhole (sym c.raise.ensures) (whole_raised c.args.low c.self.inside.root c.self.invariant.1),
  c.self.invariant.2,
)
