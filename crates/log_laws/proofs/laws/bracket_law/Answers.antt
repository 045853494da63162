use Rattle.log_laws.proofs.Cancel.{bracket}
use Rattle.log_laws.proofs.laws.bracket_law.Goals as goal

pub returns : goal.returns
returns c = bracket
