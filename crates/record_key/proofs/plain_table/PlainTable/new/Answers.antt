use Rattle.record_key.proofs.Rows.{table_of_none}
use Rattle.record_key.proofs.plain_table.PlainTable.new.Goals as goal

pub returns : goal.returns
returns c = rw c.new.ensures.items table_of_none
