use Rattle.std.proofs.Common.{arith}
use Rattle.dc_leaf.proofs.Undoing.{back_one}
use Rattle.dc_leaf.proofs.taking_back.undo_above.Goals as goal

pub loop-at-preserved : goal.loop-at-preserved
loop-at-preserved c = record {
  within = let within = c.loop-at.invariant.within in omega (arith, within);
  undone = back_one c.args.end c.args.entries.now c.loop-at.at c.entry.result c.args.rows.now.rows
      c.loop-at.rows.rows c.undo.new.rows.rows (omega (arith, c.loop-at-test.true)) c.loop-at.invariant.within
      c.entry.ensures c.loop-at.invariant.undone c.in_ok-undo.ensures.undone;
}
