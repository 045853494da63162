use Rattle.std.proofs.Common.{sym, ◌∙◌}
use Rattle.record_key.proofs.Rows.{entries-table_of}
use Rattle.dc_leaf.proofs.leaf.Leaf.rows.Goals as goal

pub returns : goal.returns
returns c = rw (← c.self.view_is) (c.lent.ensures ∙ sym (entries-table_of _ c.self.invariant.0))
