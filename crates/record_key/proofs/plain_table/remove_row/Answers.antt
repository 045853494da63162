use Rattle.std.proofs.Common.{sym, None}
use Rattle.record_key.proofs.Tables.{with_record-there}
use Rattle.record_key.proofs.Rows.{removed, absent}
use Rattle.record_key.specs.Rows.{table_of}
use Rattle.record_key.proofs.plain_table.remove_row.Goals as goal

pub returns-in-Ok-clause-ordered : goal.returns-in-Ok-clause-ordered
returns-in-Ok-clause-ordered c =
    rw c.remove.ensures.items
    (removed c.args.rows.now.items c.requires c.args.key.now c.in-Ok.at
    (rw c.as_slice.ensures.value at c.in-Ok.ensures.at)).0

pub returns-in-Ok-clause-table : goal.returns-in-Ok-clause-table
returns-in-Ok-clause-table c =
    rw c.remove.ensures.items
    (removed c.args.rows.now.items c.requires c.args.key.now c.in-Ok.at
    (rw c.as_slice.ensures.value at c.in-Ok.ensures.at)).1

pub returns-in_default-clause-table : goal.returns-in_default-clause-table
returns-in_default-clause-table c =
    sym (with_record-there (table_of c.args.rows.now.items) c.args.key.now None
    (sym (absent c.args.rows.now.items c.requires c.args.key.now c.in_default.field-0
    (rw c.as_slice.ensures.value at c.in_default.ensures.gap))))
