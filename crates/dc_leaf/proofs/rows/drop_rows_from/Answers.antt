use Rattle.std.proofs.Common.{◌∙◌}
use Rattle.dc_leaf.proofs.Ranges.{parts_of}
use Rattle.dc_leaf.proofs.rows.drop_rows_from.Goals as goal

pub returns : goal.returns
returns c =
    c.truncate.ensures
    ∙ (parts_of c.args.key.now c.args.rows.now.rows c.start_of-start.result c.requires
    (rw c.lent.ensures at c.start_of-start.ensures.start)).under
