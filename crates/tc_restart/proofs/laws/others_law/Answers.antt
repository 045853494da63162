use Rattle.tc_restart.proofs.Taking.{others_spare}
use Rattle.tc_restart.proofs.laws.others_law.Goals as goal

pub returns : goal.returns
returns c = others_spare
