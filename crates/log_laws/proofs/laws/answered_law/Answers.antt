use Rattle.log_laws.proofs.Waiting.{answered_is_plain}
use Rattle.log_laws.proofs.laws.answered_law.Goals as goal

pub returns : goal.returns
returns c = answered_is_plain
