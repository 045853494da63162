use Rattle.tc_core.proofs.OpenedLog.{opened_kept, opened_opened}
use Rattle.tc_core.proofs.laws.opened_law.Goals as goal

pub returns-clause-kept : goal.returns-clause-kept
returns-clause-kept c = opened_kept

pub returns-clause-opened : goal.returns-clause-opened
returns-clause-opened c = opened_opened
