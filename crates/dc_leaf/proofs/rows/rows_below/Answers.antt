use Rattle.std.proofs.Common.{◌∙◌}
use Rattle.dc_leaf.proofs.Ranges.{parts_of}
use Rattle.dc_leaf.proofs.rows.rows_below.Goals as goal

pub returns : goal.returns
returns c =
    c.before-under.ensures
    ∙ (parts_of c.args.key.now c.args.rows.now c.start_of.result c.requires c.start_of.ensures.start).under
