use Rattle.dc_recovery.proofs.Honesty.{honest_recovered}
use Rattle.dc_recovery.proofs.laws.honest_law.Goals as goal

pub returns : goal.returns
returns c = honest_recovered
