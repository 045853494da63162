use Rattle.std.proofs.Common.{arith}
use Rattle.codec.proofs.RowEdits.{left_fits, start_left}
use Rattle.codec.proofs.row_buffer.RowBuffer.start_of.Goals as goal

pub overflow_sub-result : goal.overflow_sub-result
overflow_sub-result c =
    rw (c.as_bytes.ensures.bytes, c.from.ensures, c.lent.ensures, ← c.self.view_is)
    (omega (
      arith,
      left_fits c.self.inside.count c.self.inside.bytes.items c.self.invariant c.args.at,
      c.len.ensures,
      c.self.inside.bytes.ok,
    ))

pub returns : goal.returns
returns c =
    rw (c.as_bytes.ensures.bytes, c.from.ensures, c.lent.ensures, ← c.self.view_is)
    (omega (
      arith,
      start_left c.self.inside.count c.self.inside.bytes.items c.self.invariant c.args.at,
      c.len.ensures,
      c.self.inside.bytes.ok,
    ))
