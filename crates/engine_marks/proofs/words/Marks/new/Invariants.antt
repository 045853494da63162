use Rattle.std.proofs.Common.{◌≡◌, length, All}
use Rattle.engine_marks.specs.Seen.{reader}
use Rattle.engine_marks.proofs.words.Marks.new.Given as goal

abbrev pub invariant-loop : goal.invariant-loop
invariant-loop g l = (length l.seats.items ≡ l.counter)
    × All (λ seat. seat ≡ reader l.marks-inside.table.shared.table_id 0 0) l.seats.items
