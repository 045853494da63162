use Rattle.std.proofs.Common.{◌≡◌, drop}
use Rattle.codec.proofs.lent_rows.LentRows.from.Given as goal

abbrev pub invariant-loop : goal.invariant-loop
invariant-loop l = l.rest ≡ drop l.counter l.self
