use Rattle.std.proofs.Common.{ap}
use Rattle.std.specs.Option.{option_copied}
use Rattle.dc_leaf.proofs.Ranges.{ranged, ranged_on}
use Rattle.dc_leaf.proofs.leaf.Leaf.scan.Goals as goal

pub returns-in-Some : goal.returns-in-Some
returns-in-Some c =
    rw (← c.self.view_is)
    (ranged (record { lo = c.args.low.now; hi = option_copied c.args.high }) c.self.inside.rows.rows
    c.rows_below.result c.in-Some.high.now c.self.invariant.0
    (ap option_copied c.in-Some.is)
    (rw (c.rows_from-rows.ensures.rows, c.lent.ensures) at c.rows_below.ensures))

pub returns-in-None : goal.returns-in-None
returns-in-None c =
    rw (← c.self.view_is)
    (ranged_on (record { lo = c.args.low.now; hi = option_copied c.args.high }) c.self.inside.rows.rows
    c.rows_from-rows.result c.self.invariant.0
    (ap option_copied c.in-None.is) (rw (c.lent.ensures) at c.rows_from-rows.ensures.rows))
