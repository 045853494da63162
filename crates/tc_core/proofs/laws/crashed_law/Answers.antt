use Rattle.tc_core.proofs.CrashedTc.{crashed_kept}
use Rattle.tc_core.proofs.laws.crashed_law.Goals as goal

pub returns : goal.returns
returns c = record { kept = crashed_kept }
