use Rattle.std.proofs.Common.{◌≡◌, IsTrue}
use Rattle.engine_marks.proofs.tests.raise_all.Given as goal

abbrev pub invariant-loop-n : goal.invariant-loop-n
invariant-loop-n l = (l.raiser.marks ≡ l.marks) × IsTrue l.raiser.raises
