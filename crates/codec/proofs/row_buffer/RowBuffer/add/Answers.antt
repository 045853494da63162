use Rattle.std.proofs.Common.{◌∙◌, ◌++◌, ap, length, arith}
use Rattle.codec.proofs.PackedRows.{spells_more, packs_more, few_packed, rows_few}
use Rattle.codec.proofs.row_buffer.RowBuffer.add.Goals as goal

pub overflow_add-self : goal.overflow_add-self
overflow_add-self c = omega (
  arith,
  few_packed c.self.inside.count c.self.inside.bytes.items c.self.invariant,
  rows_few c.args.more.now,
  ap length c.as_bytes.ensures.bytes,
  c.len.ensures,
  c.in_ok-extend_from_slice.ensures.len,
  c.extend_from_slice.new.self.ok,
  c.extend_from_slice.new.self.small,
  c.self.inside.bytes.ok,
)

pub invariant_of-self-2 : goal.invariant_of-self-2
invariant_of-self-2 c =
    rw (c.in_ok-extend_from_slice.ensures.items, c.as_bytes.ensures.bytes, c.len.ensures)
    (packs_more c.self.inside.count c.self.inside.bytes.items c.args.more.now c.self.invariant c.as_bytes.ensures.each)

pub returns-clause-added : goal.returns-clause-added
returns-clause-added c =
    rw (c.in_ok-extend_from_slice.ensures.items, c.as_bytes.ensures.bytes, c.len.ensures)
    (spells_more c.self.inside.count c.self.inside.bytes.items c.args.more.now c.self.invariant
    ∙ ap (λ r. r.rows ++ c.args.more.now) c.self.view_is)
