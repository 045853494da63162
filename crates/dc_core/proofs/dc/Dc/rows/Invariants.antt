use Rattle.std.proofs.Common.{◌≡◌, take}
use Rattle.dc_tree.specs.Leaves.{all_rows}
use Rattle.dc_core.proofs.dc.Dc.rows.Given as goal

-- the rows of the leaves so far
abbrev pub invariant-loop-place : goal.invariant-loop-place
invariant-loop-place g l = l.rows.items ≡ all_rows (take l.place l.self-inside.system.leaves)
