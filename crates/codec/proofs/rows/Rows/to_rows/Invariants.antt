use Rattle.std.proofs.Common.{◌≡◌, ◌++◌, length}
use Rattle.codec.proofs.rows.Rows.to_rows.Given as goal

abbrev pub invariant-loop-row : goal.invariant-loop-row
invariant-loop-row l = l.rows.items ++ l.rest ≡ l.self

abbrev pub decreases-loop-row : goal.decreases-loop-row
decreases-loop-row l = length l.rest
