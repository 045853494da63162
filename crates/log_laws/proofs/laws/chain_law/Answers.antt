use Rattle.log_laws.proofs.Strict.{chained_and_strict}
use Rattle.log_laws.proofs.laws.chain_law.Goals as goal

pub returns : goal.returns
returns c = chained_and_strict
