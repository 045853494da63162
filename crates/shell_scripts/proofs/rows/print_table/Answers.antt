use Rattle.std.proofs.Common.{length, codes, refl}
use Rattle.shell_scripts.proofs.Printing.{stops_first, prints_both}
use Rattle.shell_scripts.specs.Printed.{numbered}
use Rattle.shell_scripts.proofs.rows.print_table.Goals as goal

pub returns-in_err-print_rows : goal.returns-in_err-print_rows
returns-in_err-print_rows g c =
    stops_first _ _ _ (numbered (codes "rows ") (length c.args.rows.now)) _ c.from_residual.result
    c.from_residual.ensures.0 c.in_err-print_rows.ensures refl

pub returns : goal.returns
returns g c = prints_both _ _ _ _ _ _ c.print_numbered.result c.in_ok-print_rows.ensures c.print_numbered.ensures refl
