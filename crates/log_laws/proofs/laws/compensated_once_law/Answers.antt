use Rattle.log_laws.proofs.Once.{compensated_once}
use Rattle.log_laws.proofs.laws.compensated_once_law.Goals as goal

pub returns : goal.returns
returns c = compensated_once
