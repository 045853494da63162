use Rattle.dc_leaf.proofs.Ranges.{start_at, start_gap}
use Rattle.dc_leaf.proofs.rows.start_of.Goals as goal

pub returns-in-Ok-clause-start : goal.returns-in-Ok-clause-start
returns-in-Ok-clause-start c = start_at c.args.key.now c.args.rows.now c.in-Ok.at c.in-Ok.ensures.place

pub returns-in-Err-clause-start : goal.returns-in-Err-clause-start
returns-in-Err-clause-start c = start_gap c.args.key.now c.args.rows.now c.in-Err.gap c.in-Err.ensures.place
