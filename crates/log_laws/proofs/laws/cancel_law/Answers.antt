use Rattle.log_laws.proofs.Cancel.{cancel}
use Rattle.log_laws.proofs.laws.cancel_law.Goals as goal

pub returns : goal.returns
returns c = cancel
