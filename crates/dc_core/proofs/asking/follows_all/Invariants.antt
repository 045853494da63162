use Rattle.std.proofs.Common.{take}
use Rattle.std.specs.List.{AllByRecursion}
use Rattle.dc_core.specs.Shows.{Follows}
use Rattle.dc_core.proofs.asking.follows_all.Given as goal

-- it may follow the entries so far
abbrev pub invariant-loop-place : goal.invariant-loop-place
invariant-loop-place l = AllByRecursion (Follows l.number l.op) (take l.place l.entries)
