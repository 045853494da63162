use Rattle.std.proofs.Common.{◌≡◌, take}
use Rattle.dc_core.specs.DcView.{top_of}
use Rattle.dc_core.proofs.system.top_of.Given as goal

-- the greatest number in the leaves so far
abbrev pub invariant-loop-place : goal.invariant-loop-place
invariant-loop-place g l = l.most ≡ top_of (take l.place l.system.leaves)
