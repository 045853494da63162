use Rattle.stable.proofs.Left.{crash_leaves, crash_reaches}
use Rattle.stable.proofs.crash.crash_law.Goals as goal

pub returns-clause-leaves : goal.returns-clause-leaves
returns-clause-leaves c = crash_leaves

pub returns-clause-nothing_else : goal.returns-clause-nothing_else
returns-clause-nothing_else c = crash_reaches
