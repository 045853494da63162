use Rattle.std.proofs.Common.{arith}
use Rattle.dc_ab_lsn.proofs.Rising.{filtered_rises}
use Rattle.dc_ab_lsn.proofs.Capturing.{parted_captures}
use Rattle.dc_ab_lsn.proofs.ab_lsn.AbLsn.drop_from.Goals as goal

pub invariant_of-self : goal.invariant_of-self
invariant_of-self c = grind (arith, filtered_rises)

pub returns-clause-captured : goal.returns-clause-captured
returns-clause-captured c = grind (arith, parted_captures)
