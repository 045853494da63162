use Rattle.log_laws.proofs.Plain.{plain_of_history}
use Rattle.log_laws.proofs.laws.plain_history_law.Goals as goal

pub returns : goal.returns
returns c = plain_of_history
