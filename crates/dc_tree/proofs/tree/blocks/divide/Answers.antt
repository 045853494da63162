use Rattle.std.proofs.Common.{arith}
use Rattle.dc_tree.proofs.Under.{count_halves}
use Rattle.dc_tree.proofs.tree.blocks.divide.Goals as goal

pub over-requires-clause-counted : goal.over-requires-clause-counted
over-requires-clause-counted c =
    rw c.move_rest.ensures.right
    (omega (arith, count_halves c.args.children.now.items c.args.stays, c.requires.counted))
