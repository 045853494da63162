use Rattle.std.proofs.Common.{◌≡◌, ◌++◌, take}
use Rattle.std.specs.Option.{option_copied}
use Rattle.dc_tree.specs.Lists.{leaves_in}
use Rattle.dc_tree.proofs.Scanning.{found_in}
use Rattle.dc_tree.proofs.range_scan.scan_in.Given as goal

abbrev pub invariant-loop-leaf : goal.invariant-loop-leaf
invariant-loop-leaf g l =
    g.S.RowSink.rows l.found ≡ g.S.RowSink.rows l.initial.found
    ++ found_in (record { lo = l.low; hi = option_copied l.high })
    (leaves_in (take l.leaf-index l.leaf-items))
