use Rattle.std.proofs.Common.{◌≡◌, drop}
use Rattle.codec.proofs.RowsLeft.{IsAbove}
use Rattle.codec.proofs.lent_rows.LentRows.place_of.Given as goal

abbrev pub invariant-loop-at : goal.invariant-loop-at
invariant-loop-at l = (l.rest ≡ drop l.at l.self) × IsAbove l.key l.self l.at
