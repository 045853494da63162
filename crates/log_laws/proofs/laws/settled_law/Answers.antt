use Rattle.log_laws.proofs.Plain.{settled_is_plain}
use Rattle.log_laws.proofs.laws.settled_law.Goals as goal

pub returns : goal.returns
returns c = settled_is_plain
