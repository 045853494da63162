-- A data component that was restarted.
use Rattle.std.specs.Prelude.{false, []}
use Rattle.dc_tree.specs.Leaves.{rows_of}
use Rattle.dc_recovery.specs.Recovery.{stored_session}
use Rattle.dc_store.specs.SystemView.{SystemView}
use Rattle.dc_core.specs.DcView.{DcView, top_of}

-- no session runs, the greatest one that the log accepted is stored, and nothing was performed yet; all that the leaves
-- have captured is known not to be lost
abbrev pub restarted : SystemView → DcView
restarted v = record {
  stored = stored_session v.log;
  session = 0;
  redo = false;
  known = top_of v.leaves;
  opened_to = top_of v.leaves;
  redone_low = 0;
  system = v;
  opened = rows_of v.leaves;
  performed = [];
}
