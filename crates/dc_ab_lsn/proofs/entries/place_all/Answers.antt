use Rattle.std.proofs.Common.{arith}
use Rattle.dc_ab_lsn.specs.Parting.{placed_all}
use Rattle.dc_ab_lsn.proofs.Placing.{placed_one}
use Rattle.dc_ab_lsn.proofs.entries.place_all.Goals as goal

pub loop-at-preserved : goal.loop-at-preserved
loop-at-preserved c =
    placed_one c.args.low (placed_all c.args.low c.args.more.now c.args.entries.now) c.args.more.now c.loop-at.at
    c.entry.result
    c.loop-at.entries c.place_above.new.entries (omega (arith, c.loop-at-test.true, c.len-at-end.ensures))
    c.entry.ensures c.loop-at.invariant
    c.in_ok-place_above.ensures.placed
