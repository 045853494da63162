use Rattle.std.proofs.Common.{reverse, take}
use Rattle.history.specs.Legal.{IsLegal}
use Rattle.log_laws.proofs.legal.is_legal.Given as goal

abbrev pub invariant-loop-place : goal.invariant-loop-place
invariant-loop-place l = IsLegal (reverse (take l.place l.log))
