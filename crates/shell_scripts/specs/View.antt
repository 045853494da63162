-- What is printed of a node: its records, its log and how much of it is stable, and its leaves.
use Rattle.std.specs.Prelude.{ℕ, Bool, true, false, List, flat_map}
use Rattle.std.specs.FinMap.{entries}
use Rattle.record_key.specs.declared.refusal.Refusal.TheVariants.{NotConnected}
use Rattle.record_key.specs.Rows.{Row}
use Rattle.history.specs.declared.record.Record.{Record}
use Rattle.dc_leaf.specs.Leaf.{LeafView}
use Rattle.dc_tree.specs.Leaves.{rows_of}
use Rattle.node_world.specs.dc_core.specs.DcView.{leaves}
use Rattle.node_world.specs.node_laws.specs.Node.{NodeView}
use Rattle.shell_scripts.specs.declared.line.Part.{Part}
use Rattle.shell_scripts.specs.declared.line.Part.TheVariants as part
use Rattle.shell_scripts.specs.Logged.{log_text}
use Rattle.shell_scripts.specs.Printed.{refusal_line}
use Rattle.shell_scripts.specs.Stored.{leaf_line}

abbrev pub log_shown : NodeView → List Record
log_shown view = view.tc.log

abbrev pub stable_of : NodeView → ℕ
stable_of view = view.tc.stable

abbrev pub leaves_shown : NodeView → List LeafView
leaves_shown view = leaves view.dc

-- the records, in key order
abbrev pub rows_shown : NodeView → List Row
rows_shown view = entries (rows_of (leaves view.dc))

-- a line of each leaf of a data component that runs, or that it is down
abbrev pub leaves_text : Bool → List LeafView → List ℕ
leaves_text true leaves = flat_map leaf_line leaves
leaves_text false leaves = refusal_line NotConnected

-- the log of a transaction component that runs, or that it is down
abbrev pub log_if_up : Bool → List Record → ℕ → List ℕ
log_if_up true log stable = log_text log stable
log_if_up false log stable = refusal_line NotConnected

-- what is printed of a part
abbrev pub part_text : Part → NodeView → List ℕ
part_text part.Log view = log_if_up view.tc_up (log_shown view) (stable_of view)
part_text part.Leaves view = leaves_text view.dc_up (leaves_shown view)
