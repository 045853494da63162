use Rattle.dc_recovery.proofs.Honesty.{bounded_recovered}
use Rattle.dc_recovery.proofs.laws.bounded_law.Goals as goal

pub returns : goal.returns
returns c = bounded_recovered
