-- The seat belongs to these marks, so the step keeps the rule.
use Rattle.std.proofs.Common.{rules}
use Rattle.engine_marks.proofs.Steps.{reads_stable}
use Rattle.engine_marks.proofs.words.Marks.find_stable.Goals as goal

pub load-requires : goal.load-requires
load-requires g c = (search rules, search rules, reads_stable _ _ _)
