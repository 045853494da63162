use Rattle.std.proofs.Common.{◌≡◌, ◌+◌, ◌≤◌, arith, length}
use Rattle.std.specs.List.{insert}
use Rattle.codec.specs.PackedRows.{rows_spelled}
use Rattle.codec.proofs.RowEdits.{Holds, start, start_fits, holds_inserted}
use Rattle.codec.proofs.row_buffer.RowBuffer.insert.Goals as goal

pub put-requires-clause-within : goal.put-requires-clause-within
put-requires-clause-within c =
    rw (c.start_of-start.ensures, ← c.self.view_is)
    (omega (
      arith,
      start_fits c.self.inside.count c.self.inside.bytes.items c.self.invariant c.args.at,
      c.self.inside.bytes.ok,
    ))

-- what the buffer holds then
done : (c : goal.After-put) → Holds (c.self.inside.count + 1) c.put.new.bytes.items
    (insert (rows_spelled c.self.inside.count c.self.inside.bytes.items) c.args.at (c.args.key.now, c.args.value.now))
done c =
    let place : c.args.at ≤ length (rows_spelled c.self.inside.count c.self.inside.bytes.items) =
    rw (← c.self.view_is) at c.requires.place in
    let at : c.start_of-start.result ≡ start c.args.at (rows_spelled c.self.inside.count c.self.inside.bytes.items) =
    rw (← c.self.view_is) at c.start_of-start.ensures in
    holds_inserted c.self.inside.count c.self.inside.bytes.items c.self.invariant c.args.at
    (c.args.key.now, c.args.value.now) c.put.new.bytes.items place c.put.ensures.row (rw at at c.put.ensures.put)

pub overflow_add-self : goal.overflow_add-self
overflow_add-self c = omega (arith, (done c).few, c.put.new.bytes.ok, c.put.new.bytes.small)

pub invariant_of-self : goal.invariant_of-self
invariant_of-self c = (done c.before).packed

pub returns : goal.returns
returns c = rw (← c.self.view_is) (done c.before).spelled
