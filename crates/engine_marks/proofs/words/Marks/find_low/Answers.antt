-- The seat belongs to these marks, so the step keeps the rule.
use Rattle.std.proofs.Common.{rules}
use Rattle.engine_marks.proofs.Steps.{reads_low}
use Rattle.engine_marks.proofs.words.Marks.find_low.Goals as goal

pub load-requires : goal.load-requires
load-requires g c = (search rules, search rules, reads_low _ _ _)
