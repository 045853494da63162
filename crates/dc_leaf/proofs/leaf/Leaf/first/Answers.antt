use Rattle.std.proofs.Common.{ap}
use Rattle.record_key.specs.Table.{Table}
use Rattle.record_key.proofs.Rows.{table_of_none}
use Rattle.dc_leaf.specs.Leaf.{LeafView, first}
use Rattle.dc_leaf.proofs.leaf.Leaf.first.Goals as goal

pub returns : goal.returns
returns c =
    rw (c.new.ensures, c.new-2.ensures)
    (let f : Table → LeafView = λ rows. record first { rows = rows } in ap f table_of_none)
