use Rattle.std.proofs.Common.{◌∙◌, ap, sym, Some, []}
use Rattle.record_key.proofs.Rows.{found, absent}
use Rattle.dc_leaf.proofs.rows.value_at.Goals as goal

pub returns-in-Ok : goal.returns-in-Ok
returns-in-Ok c =
    ap Some c.value.ensures
    ∙ sym (found c.args.rows.now c.requires.ordered c.args.key.now c.in-Ok.at ([], [])
    (rw c.in-Ok.is at c.requires.place))

pub returns-in-Err : goal.returns-in-Err
returns-in-Err c = sym (absent c.args.rows.now c.requires.ordered c.args.key.now c.in-Err.field-0
    (rw c.in-Err.is at c.requires.place))
