use Rattle.std.proofs.Common.{rules}
use Rattle.engine_marks.proofs.Steps.{raises_low}
use Rattle.engine_marks.proofs.words.Marks.raise_low.Goals as goal

pub fetch_max-requires : goal.fetch_max-requires
fetch_max-requires g c = (search rules, search rules, raises_low _ _ _ _ (search rules) (search rules))
