use Rattle.std.proofs.Common.{arith}
use Rattle.tc_locks.proofs.Placing.{high_below, next_below}
use Rattle.tc_locks.proofs.places.ranges_to.Goals as goal

pub returns-in-Some : goal.returns-in-Some
returns-in-Some c = grind (arith, high_below)

pub returns-in-Some-next_after : goal.returns-in-Some-next_after
returns-in-Some-next_after c = grind (arith, next_below)
