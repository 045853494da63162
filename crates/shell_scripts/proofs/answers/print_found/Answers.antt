use Rattle.std.proofs.Common.{◌≡◌, ℕ, List, ◌++◌, codes, length, flat_map, sym, ap}
use Rattle.record_key.specs.Rows.{Row}
use Rattle.shell_scripts.specs.Answers.{counted_line, found_text}
use Rattle.shell_scripts.specs.Stored.{row_line}
use Rattle.shell_scripts.proofs.Printing.{stops_first, prints_both}
use Rattle.shell_scripts.proofs.answers.print_found.Goals as goal

-- the count that was asked for is that of the rows
counted : (txn count : ℕ) (rows : List Row) → count ≡ length rows
    → found_text txn rows ≡ counted_line (codes "rows ") txn count ++ flat_map row_line rows
counted txn count rows same = ap (λ n. counted_line (codes "rows ") txn n ++ flat_map row_line rows) (sym same)

pub returns-in_err-print_counted : goal.returns-in_err-print_counted
returns-in_err-print_counted g c =
    stops_first _ _ _ (flat_map row_line c.args.rows.now) _ c.from_residual.result c.from_residual.ensures.0
    c.in_err-print_counted.ensures (counted c.args.txn c.len.result c.args.rows.now c.len.ensures)

pub returns : goal.returns
returns g c =
    prints_both _ _ _ _ _ _ c.print_lent.result c.in_ok-print_counted.ensures c.print_lent.ensures
    (counted c.args.txn c.len.result c.args.rows.now c.len.ensures)
