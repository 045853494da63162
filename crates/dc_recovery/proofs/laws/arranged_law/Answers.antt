use Rattle.dc_recovery.proofs.Arranged.{arranged_once}
use Rattle.dc_recovery.proofs.laws.arranged_law.Goals as goal

pub returns : goal.returns
returns c = arranged_once
