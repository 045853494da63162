use Rattle.std.proofs.Common.{◌≡◌, take}
use Rattle.dc_core.specs.DcView.{top_low}
use Rattle.dc_core.proofs.system.top_low.Given as goal

-- the greatest low number of the leaves so far
abbrev pub invariant-loop-place : goal.invariant-loop-place
invariant-loop-place g l = l.most ≡ top_low (take l.place l.system.leaves)
