use Rattle.shell_scripts.proofs.Printing.{prints_err, cut_in_list}
use Rattle.shell_scripts.specs.Told.{committed_line}
use Rattle.shell_scripts.proofs.told.print_committed.Goals as goal

pub returns-in_err-print_numbered : goal.returns-in_err-print_numbered
returns-in_err-print_numbered g c =
    prints_err _ _ _ c.from_residual.result c.from_residual.ensures.0
    (cut_in_list committed_line _ _ _ c.args.committed.now c.loop-txn.txn-index 0 c.loop-txn-test.true
    c.loop-txn.invariant c.in_err-print_numbered.ensures)
