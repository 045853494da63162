use Rattle.std.proofs.Common.{option_map, refl}
use Rattle.shell_scripts.proofs.Printing.{stops_first, prints_both}
use Rattle.shell_pool.specs.PoolText.{records_text}
use Rattle.shell_pool.proofs.shown.print_pool.Goals as goal

pub returns-in_err-print_reads : goal.returns-in_err-print_reads
returns-in_err-print_reads g c =
    stops_first _ _ _ (records_text (option_map (λ r. r.now) c.args.rows)) _ c.from_residual.result
    c.from_residual.ensures.0 c.in_err-print_reads.ensures refl

pub returns : goal.returns
returns g c =
    prints_both _ _ _ _ _ _ c.print_records.result c.in_ok-print_reads.ensures c.print_records.ensures refl
