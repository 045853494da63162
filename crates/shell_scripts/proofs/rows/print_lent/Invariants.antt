use Rattle.std.proofs.Common.{length}
use Rattle.record_key.specs.Rows.{Row}
use Rattle.shell_scripts.specs.Stored.{row_line}
use Rattle.shell_scripts.proofs.Printing.{PrintsSoFar}
use Rattle.shell_scripts.proofs.rows.print_lent.Given as goal

-- those that were read are written
abbrev pub invariant-loop-row : goal.invariant-loop-row
invariant-loop-row g l =
    PrintsSoFar Row row_line (g.W.Write.contents l.initial.writer) (g.W.Write.contents l.writer) l.rows l.reader

abbrev pub decreases-loop-row : goal.decreases-loop-row
decreases-loop-row g l = length l.reader
