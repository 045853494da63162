use Rattle.std.proofs.Common.{◌++◌, ap, sym, ◌∙◌}
use Rattle.shell_scripts.proofs.Printing.{stops_first, prints_both}
use Rattle.shell_scripts.specs.Logged.{lines_to, log_end}
use Rattle.shell_scripts.specs.View.{log_shown, stable_of}
use Rattle.shell_scripts.proofs.shown.print_whole_log.Goals as goal

pub returns-in_err-print_records : goal.returns-in_err-print_records
returns-in_err-print_records g c =
    let log = log_shown c.args.world.now in
    stops_first _ _ _ (log_end c.args.count (stable_of c.args.world.now)) _ c.from_residual.result
    c.from_residual.ensures.0 c.in_err-print_records.ensures
    (ap (λ n. lines_to log n ++ log_end n (stable_of c.args.world.now)) (sym c.requires.all))

pub returns : goal.returns
returns g c =
    let log = log_shown c.args.world.now in
    prints_both _ _ _ _ _ _ c.print.result c.in_ok-print_records.ensures c.print.ensures
    (ap (λ n. lines_to log n ++ log_end n (stable_of c.args.world.now)) (sym c.requires.all)
    ∙ ap (λ s. lines_to log c.args.count ++ log_end c.args.count s) (sym c.requires.stable))
