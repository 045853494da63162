use Rattle.std.proofs.Common.{◌++◌, ap, sym, refl}
use Rattle.shell_scripts.proofs.Printing.{stops_first, prints_both}
use Rattle.shell_scripts.specs.Stored.{counts_text, set_line}
use Rattle.shell_scripts.proofs.leaves.print_rest.Goals as goal

pub returns-in_err-print_counts : goal.returns-in_err-print_counts
returns-in_err-print_counts g c =
    stops_first _ _ _ (set_line c.args.leaf.now.ab.entries) _ c.from_residual.result c.from_residual.ensures.0
    c.in_err-print_counts.ensures refl

pub returns : goal.returns
returns g c =
    prints_both _ _ _ _ _ _ c.print_set.result c.in_ok-print_counts.ensures c.print_set.ensures
    (ap (λ v. counts_text c.args.leaf.now ++ set_line v) (sym c.entries.ensures))
