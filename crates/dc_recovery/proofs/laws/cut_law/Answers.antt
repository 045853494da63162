use Rattle.dc_recovery.proofs.Honesty.{cuts_keep_honest}
use Rattle.dc_recovery.proofs.laws.cut_law.Goals as goal

pub returns : goal.returns
returns c = cuts_keep_honest
