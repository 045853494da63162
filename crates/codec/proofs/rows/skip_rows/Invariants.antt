use Rattle.std.proofs.Common.{◌≡◌, ◌-◌, []}
use Rattle.codec.specs.Reading.{rows_end}
use Rattle.codec.proofs.rows.skip_rows.Given as goal

abbrev pub invariant-loop : goal.invariant-loop
invariant-loop l = rows_end l.before (l.count - l.counter) l.rest ≡ rows_end [] l.count l.bytes
