use Rattle.std.proofs.Common.{sym, ◌∙◌}
use Rattle.log_laws.proofs.laws.answer_law.Goals as goal

pub returns : goal.returns
returns c = λ log n o a b asks first second. first o asks ∙ sym (second o asks)
