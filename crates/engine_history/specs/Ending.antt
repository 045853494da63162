-- The node with which a run of it ends, and its records.
use Rattle.std.specs.Prelude.{◌≡◌, true, false, List, Option, Some, None}
use Rattle.std.specs.FinMap.{entries}
use Rattle.std.specs.Global.{Vec}
use Rattle.record_key.specs.Table.{Bytes}
use Rattle.dc_tree.specs.Leaves.{rows_of}
use Rattle.node_sides.specs.dc_core.specs.DcView.{leaves}
use Rattle.node_sides.specs.node_laws.specs.Component.{DcSide}
use Rattle.node_sides.specs.node_laws.specs.Forgetting.{without_messages}
use Rattle.node_sides.specs.node_laws.specs.Node.{NodeView}
use Rattle.node_sides.specs.node_laws.specs.Standing.{IsNode}
use Rattle.engine_history.specs.declared.step.Step.{Step}
use Rattle.engine_history.specs.Kept.{IsInRun}
use Rattle.engine_history.specs.Steps.{Start, RunsTo}

-- the records of the data component, where it runs
abbrev pub IsRowsOf : DcSide → Option (Vec (Bytes × Bytes)) → Type 0
IsRowsOf dc None = dc.up ≡ false
IsRowsOf dc (Some rows) = (dc.up ≡ true) × (rows.items ≡ entries (rows_of (leaves dc.dc)))

-- some run of the node through these steps ends with these records
pub record EndsWith (start : Start) (es : List Step) (rows : Option (Vec (Bytes × Bytes))) : Type 0 where
  pub dc : DcSide
  pub run : IsInRun start es dc
  pub rows_are : IsRowsOf dc rows

-- some run of the node through these steps leaves it so, once its messages are let go
pub record LeavesNode (start : Start) (es : List Step) (left : NodeView) : Type 0 where
  pub node : NodeView
  pub runs : RunsTo start es node
  pub left_is : left ≡ without_messages node
  pub is_node : IsNode left
