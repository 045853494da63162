use Rattle.record_key.proofs.Rows.{inserted, replaced}
use Rattle.record_key.proofs.plain_table.put_row.Goals as goal

pub returns-in-Ok-clause-ordered : goal.returns-in-Ok-clause-ordered
returns-in-Ok-clause-ordered c =
    rw (c.copied.ensures, c.copied-2.ensures)
    (replaced c.args.rows.now.items c.requires c.args.key.now c.in-Ok.at c.args.value.now
    (rw c.as_slice.ensures.value at c.in-Ok.ensures.at)).0

pub returns-in-Ok-clause-ok : goal.returns-in-Ok-clause-ok
returns-in-Ok-clause-ok c =
    rw (c.copied.ensures, c.copied-2.ensures)
    (replaced c.args.rows.now.items c.requires c.args.key.now c.in-Ok.at c.args.value.now
    (rw c.as_slice.ensures.value at c.in-Ok.ensures.at)).1

pub returns-in_ok-insert-in-Err-clause-ordered : goal.returns-in_ok-insert-in-Err-clause-ordered
returns-in_ok-insert-in-Err-clause-ordered c =
    rw (c.in_ok-insert-in-Err.ensures.items, c.copied.ensures, c.copied-2.ensures)
    (inserted c.args.rows.now.items c.requires c.args.key.now c.in-Err.at c.args.value.now
    (rw c.as_slice.ensures.value at c.in-Err.ensures.gap)).0

pub returns-in_ok-insert-in-Err-clause-ok : goal.returns-in_ok-insert-in-Err-clause-ok
returns-in_ok-insert-in-Err-clause-ok c =
    rw (c.in_ok-insert-in-Err.ensures.items, c.copied.ensures, c.copied-2.ensures)
    (inserted c.args.rows.now.items c.requires c.args.key.now c.in-Err.at c.args.value.now
    (rw c.as_slice.ensures.value at c.in-Err.ensures.gap)).1
