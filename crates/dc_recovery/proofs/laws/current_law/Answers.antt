use Rattle.dc_recovery.proofs.Current.{current_stays}
use Rattle.dc_recovery.proofs.laws.current_law.Goals as goal

pub returns : goal.returns
returns c = current_stays
