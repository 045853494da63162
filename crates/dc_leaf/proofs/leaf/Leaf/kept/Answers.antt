use Rattle.record_key.proofs.Rows.{entries-table_of}
use Rattle.dc_leaf.proofs.leaf.Leaf.kept.Goals as goal

pub returns : goal.returns
returns c =
    rw (← c.self.view_is)
    (record {
      rows = rw (entries-table_of c.self.inside.rows.rows c.self.invariant.0) c.self.invariant.1.0;
      entries = c.self.invariant.1.1;
      rising = c.entries-entries.ensures.rising;
    })
