use Rattle.std.proofs.Common.{arith}
use Rattle.dc_ab_lsn.proofs.Rising.{rises}
use Rattle.dc_ab_lsn.proofs.Noting.{found_captured}
use Rattle.dc_ab_lsn.proofs.ab_lsn.AbLsn.captures.Goals as goal

pub place_of-requires : goal.place_of-requires
place_of-requires c = rises c.self.inside.low c.self.inside.entries c.self.invariant

pub returns-else-number-self : goal.returns-else-number-self
returns-else-number-self c = grind (arith, found_captured)
