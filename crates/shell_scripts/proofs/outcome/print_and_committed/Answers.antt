use Rattle.std.proofs.Common.{refl}
use Rattle.shell_scripts.proofs.Printing.{stops_first, prints_both}
use Rattle.shell_scripts.specs.Told.{committed_text}
use Rattle.shell_scripts.proofs.outcome.print_and_committed.Goals as goal

pub returns-in_err-print_numbered : goal.returns-in_err-print_numbered
returns-in_err-print_numbered g c =
    stops_first _ _ _ (committed_text c.args.committed.now) _ c.from_residual.result c.from_residual.ensures.0
    c.in_err-print_numbered.ensures refl

pub returns : goal.returns
returns g c = prints_both _ _ _ _ _ _ c.print_committed.result c.in_ok-print_numbered.ensures c.print_committed.ensures
    refl
