-- Rows that are read from their end.
use Rattle.std.specs.Prelude.{List, ◌++◌, reverse}
use Rattle.record_key.specs.Rows.{Row}
use Rattle.row_ranges.specs.declared.backward.Backward.{Backward}

-- the rows that are left, the next one first
abbrev pub left : Backward → List Row
left b = reverse (b.far ++ b.near)
