use Rattle.tc_log.proofs.Crashed.{crash_leaves, opens_once, never_bad}
use Rattle.tc_log.proofs.laws.crash_law.Goals as goal

pub returns-clause-left : goal.returns-clause-left
returns-clause-left c = crash_leaves

pub returns-clause-once : goal.returns-clause-once
returns-clause-once c = opens_once

pub returns-clause-good : goal.returns-clause-good
returns-clause-good c = never_bad
