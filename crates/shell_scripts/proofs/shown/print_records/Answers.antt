use Rattle.shell_scripts.proofs.Printing.{prints_err}
use Rattle.shell_scripts.proofs.Records.{cut_in_records}
use Rattle.shell_scripts.specs.View.{log_shown}
use Rattle.shell_scripts.proofs.shown.print_records.Goals as goal

pub returns-in_err-print_at : goal.returns-in_err-print_at
returns-in_err-print_at g c =
    prints_err _ _ _ c.from_residual.result c.from_residual.ensures.0
    (cut_in_records (log_shown c.args.world.now) _ _ _ c.loop-before.before c.args.count c.loop-before-test.true
    c.loop-before.invariant c.in_err-print_at.ensures)
