use Rattle.shell_scripts.specs.Stored.{row_line}
use Rattle.shell_scripts.proofs.Printing.{prints_err, one_more, cut_at_next}
use Rattle.shell_scripts.proofs.rows.print_lent.Goals as goal

pub loop-row-preserved : goal.loop-row-preserved
loop-row-preserved g c =
    one_more row_line _ _ _ c.args.rows.now c.loop-row.reader c.in-Some.row c.next.new.self c.loop-row.invariant
    c.in-Some.ensures.row c.in_ok-print_row.ensures

pub returns-in_err-print_row : goal.returns-in_err-print_row
returns-in_err-print_row g c =
    prints_err _ _ _ c.from_residual.result c.from_residual.ensures.0
    (cut_at_next row_line _ _ _ c.args.rows.now c.loop-row.reader c.in-Some.row c.next.new.self c.loop-row.invariant
    c.in-Some.ensures.row c.in_err-print_row.ensures)
