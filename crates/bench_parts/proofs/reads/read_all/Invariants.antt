use Rattle.std.proofs.Common.{◌≡◌}
use Rattle.bench_parts.proofs.reads.read_all.Given as goal

abbrev pub invariant-loop : goal.invariant-loop
invariant-loop l = l.seat.marks ≡ l.marks
