use Rattle.shell_scripts.proofs.Printing.{prints_err, cut_at_item}
use Rattle.shell_scripts.specs.Looked.{told_so}
use Rattle.shell_scripts.proofs.line_result.print_all_told.Goals as goal

pub returns-in_err-print_told_so : goal.returns-in_err-print_told_so
returns-in_err-print_told_so g c =
    prints_err _ _ _ c.from_residual.result c.from_residual.ensures.0
    (cut_at_item (told_so c.args.looks.now.scans.items) _ _ _ c.args.outs.now c.loop-out.out-index c.out-item.result
    c.out-item.result c.loop-out-test.true c.out-item.is c.loop-out.invariant c.in_err-print_told_so.ensures)
