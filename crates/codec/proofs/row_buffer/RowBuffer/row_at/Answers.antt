use Rattle.std.proofs.Common.{◌≡◌, ◌∙◌, ◌+◌, drop, ap, arith}
use Rattle.codec.proofs.RowEdits.{left_fits, start_left}
use Rattle.codec.proofs.RowsLeft.{taken_off}
use Rattle.codec.proofs.row_buffer.RowBuffer.row_at.Goals as goal

-- the rows behind this one
behind : (c : goal.After-as_bytes-2) → c.next_texts-row.new.self ≡ drop (c.args.at + 1) c.args.self.now.rows
behind c =
    taken_off c.args.self.now.rows c.from-rest.result c.args.at
    (c.from-rest.ensures ∙ ap (drop c.args.at) c.lent.ensures) (λ row. (row.0.now, row.1.now)) c.next_texts-row.result
    c.next_texts-row.new.self c.next_texts-row.ensures.row c.next_texts-row.ensures.end c.requires

pub overflow_sub-start : goal.overflow_sub-start
overflow_sub-start c =
    rw (c.as_bytes.ensures.bytes, c.from-rest.ensures, c.lent.ensures, ← c.self.view_is)
    (omega (
      arith,
      left_fits c.self.inside.count c.self.inside.bytes.items c.self.invariant c.args.at,
      c.len.ensures,
      c.self.inside.bytes.ok,
    ))

pub overflow_sub-result : goal.overflow_sub-result
overflow_sub-result c =
    rw (c.as_bytes-2.ensures.bytes, behind c, ← c.self.view_is)
    (omega (
      arith,
      left_fits c.self.inside.count c.self.inside.bytes.items c.self.invariant (c.args.at + 1),
      c.len-2.ensures,
      c.self.inside.bytes.ok,
    ))

pub returns-clause-start : goal.returns-clause-start
returns-clause-start c =
    rw (c.as_bytes.ensures.bytes, c.from-rest.ensures, c.lent.ensures, ← c.self.view_is)
    (omega (
      arith,
      start_left c.self.inside.count c.self.inside.bytes.items c.self.invariant c.args.at,
      c.len.ensures,
      c.self.inside.bytes.ok,
    ))

pub returns-clause-end : goal.returns-clause-end
returns-clause-end c =
    rw (c.as_bytes-2.ensures.bytes, behind c, ← c.self.view_is)
    (omega (
      arith,
      start_left c.self.inside.count c.self.inside.bytes.items c.self.invariant (c.args.at + 1),
      c.len-2.ensures,
      c.self.inside.bytes.ok,
    ))
