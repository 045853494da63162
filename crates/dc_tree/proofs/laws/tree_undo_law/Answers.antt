use Rattle.dc_tree.proofs.Taking.{all_taken, undone_among}
use Rattle.dc_tree.proofs.laws.tree_undo_law.Goals as goal

pub returns : goal.returns
returns c = record { steps = all_taken; undone = undone_among }
