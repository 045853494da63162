use Rattle.dc_recovery.proofs.Beginnings.{safe_beginnings}
use Rattle.dc_recovery.proofs.laws.beginning_law.Goals as goal

pub returns : goal.returns
returns c = safe_beginnings
