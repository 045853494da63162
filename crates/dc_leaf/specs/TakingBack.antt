-- What a leaf is once the entries above an end are taken back.
use Rattle.std.specs.Prelude.{◌≡◌, ℕ, List, [], ◌∷◌, Option, Some, None, nat_lt, if◌then◌else◌}
use Rattle.record_key.specs.declared.op.Op.{Op}
use Rattle.record_key.specs.declared.entry.Entry.{Entry}
use Rattle.record_key.specs.Entries.{StandBetween}
use Rattle.record_key.specs.Rows.{Row, AreInOrder, LieBetween, table_of}
use Rattle.record_key.specs.Table.{Bytes, Table, after}
use Rattle.inverse.specs.Inverse.{undo_of}
use Rattle.dc_ab_lsn.specs.AbLsn.{popped}
use Rattle.dc_leaf.specs.Leaf.{LeafView}

-- the table after what undoes an operation, if anything does
abbrev pub undone_with : Table → Option Op → Table
undone_with m None = m
undone_with m (Some i) = after m i

-- what undoes an entry's operation is decided by its key and its saved answer alone
abbrev pub undone_by : Table → Entry → Table
undone_by m e = undone_with m (undo_of e.key e.answer)

-- numbers rise, so what stands behind an entry is taken back before it
abbrev pub rows_back : ℕ → List Entry → Table → Table
rows_back end [] m = m
rows_back end (e ∷ es) m = if nat_lt end e.number then undone_by (rows_back end es m) e else rows_back end es m

abbrev pub taken_back : LeafView → ℕ → LeafView
taken_back leaf end = record leaf { rows = rows_back end leaf.ab.entries leaf.rows; ab = popped leaf.ab end }

-- rows in order that are those of this table, and lie between the fences between which the old ones and these entries
-- lie
pub record AreRowsOf (m : Table) (es : List Entry) (old new : List Row) : Type 0 where
  pub table : table_of new ≡ m
  pub ordered : AreInOrder new
  pub between : (low high : Option Bytes) → LieBetween low high old → StandBetween low high es → LieBetween low high new
