use Rattle.std.proofs.Common.{arith}
use Rattle.codec.proofs.RowsLeft.{taken_off}
use Rattle.codec.proofs.lent_rows.LentRows.from.Goals as goal

pub loop-preserved : goal.loop-preserved
loop-preserved c =
    taken_off c.args.self.now c.loop.rest c.loop.counter c.loop.invariant (λ row. (row.0.now, row.1.now))
    c.next_texts-row.result c.next_texts-row.new.self c.next_texts-row.ensures.row c.next_texts-row.ensures.end
    (omega arith)
