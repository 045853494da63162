use Rattle.std.proofs.Common.{arith, lt-ltb}
use Rattle.dc_ab_lsn.proofs.Rising.{rises, at_stands, gap_stands, gap_placed}
use Rattle.dc_ab_lsn.proofs.entries.place_above.Goals as goal

pub place_of-requires : goal.place_of-requires
place_of-requires c = rises c.args.low c.args.entries.now c.requires

pub returns-in-Ok-clause-placed : goal.returns-in-Ok-clause-placed
returns-in-Ok-clause-placed c = grind (arith, lt-ltb, at_stands)

pub returns-in_ok-insert-in-Err-clause-placed : goal.returns-in_ok-insert-in-Err-clause-placed
returns-in_ok-insert-in-Err-clause-placed c = grind (arith, lt-ltb, gap_stands, gap_placed)
