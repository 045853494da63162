use Rattle.tc_core.proofs.CrashedTc.{opens_again, same_are_lost}
use Rattle.tc_core.proofs.laws.opened_again_law.Goals as goal

pub returns-clause-again : goal.returns-clause-again
returns-clause-again c = opens_again

pub returns-clause-lost : goal.returns-clause-lost
returns-clause-lost c = same_are_lost
