use Rattle.std.proofs.Common.{arith}
use Rattle.dc_ab_lsn.proofs.Rising.{rises, at_saved, unsaved, gap_stands}
use Rattle.dc_ab_lsn.proofs.ab_lsn.AbLsn.answer_of.Goals as goal

pub place_of-requires : goal.place_of-requires
place_of-requires c = rises c.self.inside.low c.self.inside.entries c.self.invariant

pub returns-in-Ok : goal.returns-in-Ok
returns-in-Ok c = grind (arith, at_saved)

pub returns-in-Err : goal.returns-in-Err
returns-in-Err c = grind (arith, unsaved, gap_stands)
