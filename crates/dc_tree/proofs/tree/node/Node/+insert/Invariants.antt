use Rattle.dc_tree.proofs.tree.node.Node.+insert.Given as goal

abbrev pub decreases-insert : goal.decreases-insert
decreases-insert l = goal.size-insert l
