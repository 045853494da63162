use Rattle.std.proofs.Common.{false, take}
use Rattle.std.specs.Option.{option_copied}
use Rattle.dc_tree.specs.Nodes.{under}
use Rattle.dc_tree.specs.Scanned.{IsScannedOn}
use Rattle.dc_tree.proofs.tree.+scan.Given as goal

abbrev pub invariant-scanning::scan_nodes-loop-node : goal.invariant-scanning::scan_nodes-loop-node
invariant-scanning::scan_nodes-loop-node g l =
    IsScannedOn (record { lo = l.low; hi = option_copied l.high }) (under (take l.node-index l.nodes))
    (g.S.RowSink.rows l.initial.found) (g.S.RowSink.rows l.found) false
