use Rattle.std.proofs.Common.{◌≡◌, ℕ, List, ◌++◌, codes, length, flat_map, reverse, sym, ap, ◌∙◌, refl}
use Rattle.std.proofs.lemmas.List.{length-reverse}
use Rattle.record_key.specs.Rows.{Row}
use Rattle.row_ranges.specs.Backward.{left}
use Rattle.shell_scripts.specs.Answers.{counted_line, found_text}
use Rattle.shell_scripts.specs.Stored.{row_line}
use Rattle.shell_scripts.proofs.Printing.{stops_first, prints_both}
use Rattle.shell_scripts.proofs.looked.print_back.Goals as goal

-- the count is that of the rows, whichever comes first
counted : (txn count : ℕ) (rows turned : List Row) → count ≡ length rows → turned ≡ reverse rows
    → found_text txn (reverse rows) ≡ counted_line (codes "rows ") txn count ++ flat_map row_line turned
counted txn count rows turned same other =
    ap (λ n. counted_line (codes "rows ") txn n ++ flat_map row_line (reverse rows)) (length-reverse rows ∙ sym same)
    ∙ ap (λ v. counted_line (codes "rows ") txn count ++ flat_map row_line v) (sym other)

pub returns-in_err-print_counted : goal.returns-in_err-print_counted
returns-in_err-print_counted g c =
    stops_first _ _ _ (flat_map row_line (reverse c.args.rows.now)) _ c.from_residual.result c.from_residual.ensures.0
    c.in_err-print_counted.ensures
    (counted c.args.txn c.len.result c.args.rows.now (reverse c.args.rows.now) c.len.ensures refl)

pub returns : goal.returns
returns g c =
    prints_both _ _ _ _ _ _ c.print_backward.result c.in_ok-print_counted.ensures c.print_backward.ensures
    (counted c.args.txn c.len.result c.args.rows.now (left c.new.result) c.len.ensures
    (c.new.ensures ∙ ap reverse c.again.ensures))
