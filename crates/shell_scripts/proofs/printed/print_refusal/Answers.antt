use Rattle.std.proofs.Common.{ap, sym, ◌++◌, refl}
use Rattle.shell_scripts.proofs.Printing.{stops_first, prints_both}
use Rattle.shell_scripts.specs.Printed.{number_behind, number_text, refusal_text}
use Rattle.shell_scripts.proofs.printed.print_refusal.Goals as goal

pub returns-in_err-print_name : goal.returns-in_err-print_name
returns-in_err-print_name g c =
    stops_first _ _ _ (number_text (number_behind c.args.refusal)) _ c.from_residual.result c.from_residual.ensures.0
    c.in_err-print_name.ensures refl

pub returns : goal.returns
returns g c = prints_both _ _ _ _ _ _ c.print_detail.result c.in_ok-print_name.ensures c.print_detail.ensures
    (ap (λ v. refusal_text c.args.refusal ++ number_text v) (sym c.number_behind.ensures))
