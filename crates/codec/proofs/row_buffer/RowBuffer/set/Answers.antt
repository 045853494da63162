use Rattle.std.proofs.Common.{◌≡◌, ◌+◌, ◌<◌, set, arith, length}
use Rattle.codec.specs.PackedRows.{rows_spelled}
use Rattle.codec.proofs.RowEdits.{Holds, start, start_fits, next_start, holds_replaced}
use Rattle.codec.proofs.row_buffer.RowBuffer.set.Goals as goal

pub put-requires-clause-ordered : goal.put-requires-clause-ordered
put-requires-clause-ordered c =
    let place : c.args.at < length (rows_spelled c.self.inside.count c.self.inside.bytes.items) =
    rw (← c.self.view_is) at c.requires.place in
    rw (c.row_at-start.ensures.start, c.row_at-start.ensures.end, ← c.self.view_is)
    (next_start c.self.inside.count c.self.inside.bytes.items c.self.invariant c.args.at place)

pub put-requires-clause-within : goal.put-requires-clause-within
put-requires-clause-within c =
    rw (c.row_at-start.ensures.end, ← c.self.view_is)
    (omega (
      arith,
      start_fits c.self.inside.count c.self.inside.bytes.items c.self.invariant (c.args.at + 1),
      c.self.inside.bytes.ok,
    ))

-- what the buffer holds then
done : (c : goal.After-put) → Holds c.self.inside.count c.put.new.bytes.items
    (set (rows_spelled c.self.inside.count c.self.inside.bytes.items) c.args.at (c.args.key.now, c.args.value.now))
done c =
    let place : c.args.at < length (rows_spelled c.self.inside.count c.self.inside.bytes.items) =
    rw (← c.self.view_is) at c.requires.place in
    let first : c.row_at-start.result.0
    ≡ start c.args.at (rows_spelled c.self.inside.count c.self.inside.bytes.items) =
    rw (← c.self.view_is) at c.row_at-start.ensures.start in
    let last : c.row_at-start.result.1
    ≡ start (c.args.at + 1) (rows_spelled c.self.inside.count c.self.inside.bytes.items) =
    rw (← c.self.view_is) at c.row_at-start.ensures.end in
    holds_replaced c.self.inside.count c.self.inside.bytes.items c.self.invariant c.args.at
    (c.args.key.now, c.args.value.now) c.put.new.bytes.items place c.put.ensures.row
    (rw (first, last) at c.put.ensures.put)

pub invariant_of-self : goal.invariant_of-self
invariant_of-self c = (done c).packed

pub returns : goal.returns
returns c = rw (← c.self.view_is) (done c).spelled
