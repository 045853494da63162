use Rattle.std.proofs.Common.{◌≡◌}
use Rattle.dc_tree.specs.Lists.{leaves_in}
use Rattle.dc_tree.proofs.Raising.{raised_below}
use Rattle.dc_tree.proofs.boxes.raise_in.Given as goal

abbrev pub invariant-loop-place : goal.invariant-loop-place
invariant-loop-place l = leaves_in l.leaves.items ≡ raised_below l.low l.place (leaves_in l.fn.leaves.items)
