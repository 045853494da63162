use Rattle.std.proofs.Common.{arith}
use Rattle.tc_locks.proofs.Leaving.{alone}
use Rattle.tc_locks.proofs.held.Held.is_alone.Goals as goal

pub returns-in-1 : goal.returns-in-1
returns-in-1 c some u other = grind (arith, alone)
