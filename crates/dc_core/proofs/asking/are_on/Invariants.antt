use Rattle.std.proofs.Common.{take}
use Rattle.std.specs.List.{AllByRecursion}
use Rattle.dc_core.specs.Shows.{IsOn}
use Rattle.dc_core.proofs.asking.are_on.Given as goal

-- the entries so far have it on the key
abbrev pub invariant-loop-place : goal.invariant-loop-place
invariant-loop-place l = AllByRecursion (IsOn l.number l.key) (take l.place l.entries)
