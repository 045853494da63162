use Rattle.dc_recovery.proofs.Honesty.{low_recovered}
use Rattle.dc_recovery.proofs.laws.low_law.Goals as goal

pub returns : goal.returns
returns c = low_recovered
