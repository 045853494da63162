use Rattle.std.proofs.Common.{List, ◌++◌, ap, ◌∙◌}
use Rattle.std.specs.Option.{option_copied}
use Rattle.record_key.specs.Rows.{Row}
use Rattle.record_key.specs.Order.{Range, rows_in}
use Rattle.dc_tree.specs.Leaves.{rows_of}
use Rattle.dc_tree.specs.Lists.{ListView}
use Rattle.dc_tree.proofs.Ranging.{scanned_all}
use Rattle.dc_tree.proofs.tree.TreeLeafSet.scan.Goals as goal

pub returns-clause-found : goal.returns-clause-found
returns-clause-found g c =
    let s : Range = record { lo = c.args.low.now; hi = option_copied c.args.high } in
    let one = c.in_ok-scan_from.ensures.found in
    one.rows
    ∙ ap (λ (rows : List Row). g.S.RowSink.rows c.args.found.now ++ rows)
    (scanned_all s c.self.inside.root.leaves one.place c.self.invariant.0 one.at
    ∙ ap (λ (t : ListView). rows_in s (rows_of t.leaves)) c.self.view_is)
