use Rattle.shell_scripts.proofs.Printing.{prints_err, cut_at_item}
use Rattle.shell_scripts.specs.Stored.{row_line}
use Rattle.shell_scripts.proofs.rows.print_rows.Goals as goal

pub returns-in_err-print_row : goal.returns-in_err-print_row
returns-in_err-print_row g c =
    prints_err _ _ _ c.from_residual.result c.from_residual.ensures.0
    (cut_at_item row_line _ _ _ c.args.rows.now c.loop-row.row-index c.row-item.result c.row-item.result
    c.loop-row-test.true c.row-item.is c.loop-row.invariant c.in_err-print_row.ensures)
