use Rattle.std.proofs.Common.{◌≤◌, ◌-◌}
use Rattle.jakumshe.proofs.parts.place_of.Given as goal

abbrev pub invariant-loop-first : goal.invariant-loop-first
invariant-loop-first l = (l.first ≤ l.end) × (l.end ≤ l.count)

abbrev pub decreases-loop-first : goal.decreases-loop-first
decreases-loop-first l = l.end - l.first
