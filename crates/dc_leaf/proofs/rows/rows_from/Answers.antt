use Rattle.std.proofs.Common.{◌∙◌}
use Rattle.dc_leaf.proofs.Ranges.{parts_of, ordered_drop}
use Rattle.dc_leaf.proofs.rows.rows_from.Goals as goal

pub returns-clause-rows : goal.returns-clause-rows
returns-clause-rows c =
    c.from.ensures
    ∙ (parts_of c.args.key.now c.args.rows.now c.start_of.result c.requires c.start_of.ensures.start).from

pub returns-clause-ordered : goal.returns-clause-ordered
returns-clause-ordered c =
    rw (c.from.ensures) (ordered_drop c.args.rows.now c.start_of.result c.requires)
