use Rattle.std.proofs.Common.{◌≡◌, length}
use Rattle.codec.specs.Reading.{rows_lie}
use Rattle.codec.proofs.image.rows_lie.Given as goal

abbrev pub invariant-loop-key : goal.invariant-loop-key
invariant-loop-key l = rows_lie l.low l.high l.rest ≡ rows_lie l.low l.high l.rows

abbrev pub decreases-loop-key : goal.decreases-loop-key
decreases-loop-key l = length l.rest
