-- The seat belongs to these marks and raises them, so the step keeps the rule.
use Rattle.std.proofs.Common.{rules}
use Rattle.engine_marks.proofs.Steps.{raises_stable}
use Rattle.engine_marks.proofs.words.Marks.raise_stable.Goals as goal

pub fetch_max-requires : goal.fetch_max-requires
fetch_max-requires g c = (search rules, search rules, raises_stable _ _ _ _ (search rules))
