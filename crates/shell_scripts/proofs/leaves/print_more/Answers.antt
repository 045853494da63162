use Rattle.std.proofs.Common.{codes, refl}
use Rattle.shell_scripts.proofs.Printing.{stops_first, prints_both}
use Rattle.shell_scripts.proofs.leaves.print_more.Goals as goal

pub returns-in_err-print_numbers : goal.returns-in_err-print_numbers
returns-in_err-print_numbers g c =
    stops_first _ _ _ (codes "\n") _ c.from_residual.result c.from_residual.ensures.0 c.in_err-print_numbers.ensures
    refl

pub returns : goal.returns
returns g c = prints_both _ _ _ _ _ _ c.print.result c.in_ok-print_numbers.ensures c.print.ensures refl
