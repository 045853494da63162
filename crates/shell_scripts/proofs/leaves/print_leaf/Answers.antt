use Rattle.std.proofs.Common.{◌++◌, refl}
use Rattle.shell_scripts.proofs.Printing.{stops_first, prints_both}
use Rattle.shell_scripts.specs.Stored.{counts_text, set_line}
use Rattle.shell_scripts.proofs.leaves.print_leaf.Goals as goal

pub returns-in_err-print_fences : goal.returns-in_err-print_fences
returns-in_err-print_fences g c =
    stops_first _ _ _ (counts_text c.args.leaf.now ++ set_line c.args.leaf.now.ab.entries) _ c.from_residual.result
    c.from_residual.ensures.0 c.in_err-print_fences.ensures refl

pub returns : goal.returns
returns g c = prints_both _ _ _ _ _ _ c.print_rest.result c.in_ok-print_fences.ensures c.print_rest.ensures refl
