use Rattle.std.proofs.Common.{refl}
use Rattle.shell_scripts.proofs.Printing.{stops_first, prints_both}
use Rattle.shell_scripts.specs.Ending.{end_line}
use Rattle.shell_scripts.proofs.line_result.print_settled.Goals as goal

pub returns-in_err-print_all_told : goal.returns-in_err-print_all_told
returns-in_err-print_all_told g c =
    stops_first _ _ _ (end_line c.args.end.now) _ c.from_residual.result c.from_residual.ensures.0
    c.in_err-print_all_told.ensures refl

pub returns : goal.returns
returns g c = prints_both _ _ _ _ _ _ c.print_end.result c.in_ok-print_all_told.ensures c.print_end.ensures refl
