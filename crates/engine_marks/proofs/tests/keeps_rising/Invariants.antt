use Rattle.std.proofs.Common.{◌≡◌}
use Rattle.engine_marks.proofs.tests.keeps_rising.Given as goal

abbrev pub invariant-loop : goal.invariant-loop
invariant-loop l = l.seat.marks ≡ l.marks
