use Rattle.std.proofs.Common.{◌≡◌, ◌<◌, ◌++◌, List, [], ◌∷◌, decimal, drop, get_or, length, ap, sym, ◌∙◌, append-nil, arith}
use Rattle.record_key.specs.declared.entry.Entry.{Entry}
use Rattle.shell_scripts.proofs.Printing.{stops_first, prints_both}
use Rattle.shell_scripts.specs.Stored.{set_line, more_line}
use Rattle.shell_scripts.proofs.leaves.print_set.Goals as goal

from_first : (entries : List Entry) (first : Entry) → 0 < length entries → first ≡ get_or entries 0 first
    → set_line entries ≡ (decimal first.number ++ []) ++ more_line (drop 1 entries)
from_first [] first lt is = absurd (omega (arith, lt))
from_first (e ∷ es) first lt is = ap (λ v. v ++ more_line es)
    (sym (append-nil (decimal e.number)) ∙ ap (λ (x : Entry). decimal x.number ++ []) (sym is))

pub returns-in_err-print : goal.returns-in_err-print
returns-in_err-print g c =
    stops_first _ _ _ (more_line (drop 1 c.args.entries.now)) _ c.from_residual.result c.from_residual.ensures.0
    c.in_err-print.ensures
    (from_first c.args.entries.now c.entry.result (omega (arith, c.if-len-eq0.false, c.len.ensures)) c.entry.ensures)

pub returns : goal.returns
returns g c =
    prints_both _ _ _ _ _ _ c.print_more.result c.in_ok-print.ensures c.print_more.ensures
    (from_first c.args.entries.now c.entry.result (omega (arith, c.if-len-eq0.false, c.len.ensures)) c.entry.ensures)
