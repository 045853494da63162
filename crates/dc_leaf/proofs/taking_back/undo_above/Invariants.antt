use Rattle.std.proofs.Common.{◌≤◌, length, drop}
use Rattle.record_key.specs.Rows.{table_of}
use Rattle.dc_leaf.specs.TakingBack.{rows_back, AreRowsOf}
use Rattle.dc_leaf.proofs.taking_back.undo_above.Given as goal

-- the entries from here on are undone
abbrev pub invariant-loop-at : goal.invariant-loop-at
invariant-loop-at l = record {
  within : l.at ≤ length l.entries;
  undone : AreRowsOf (rows_back l.end (drop l.at l.entries) (table_of l.fn.rows.rows)) (drop l.at l.entries)
      l.fn.rows.rows l.rows.rows;
}

abbrev pub decreases-loop-at : goal.decreases-loop-at
decreases-loop-at l = l.at
