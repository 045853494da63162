use Rattle.std.proofs.Common.{◌≡◌, ◌∙◌, ◌+◌, ◌-◌, ◌<◌, ap, sym, arith, length, drop, ℕ}
use Rattle.std.specs.List.{remove}
use Rattle.codec.specs.PackedRows.{rows_spelled}
use Rattle.codec.proofs.PackedRows.{length-spelled}
use Rattle.codec.proofs.RowEdits.{Holds, start, start_fits, next_start, holds_removed}
use Rattle.codec.proofs.row_buffer.RowBuffer.remove.Goals as goal

pub fit-requires-clause-ordered : goal.fit-requires-clause-ordered
fit-requires-clause-ordered c =
    let place : c.args.at < length (rows_spelled c.self.inside.count c.self.inside.bytes.items) =
    rw (← c.self.view_is) at c.requires in
    rw (c.row_at-start.ensures.start, c.row_at-start.ensures.end, ← c.self.view_is)
    (next_start c.self.inside.count c.self.inside.bytes.items c.self.invariant c.args.at place)

pub fit-requires-clause-within : goal.fit-requires-clause-within
fit-requires-clause-within c =
    rw (c.row_at-start.ensures.end, ← c.self.view_is)
    (omega (
      arith,
      start_fits c.self.inside.count c.self.inside.bytes.items c.self.invariant (c.args.at + 1),
      c.self.inside.bytes.ok,
    ))

pub overflow_sub-self : goal.overflow_sub-self
overflow_sub-self c =
    let place : c.args.at < length (rows_spelled c.self.inside.count c.self.inside.bytes.items) =
    rw (← c.self.view_is) at c.requires in
    omega (arith, place, length-spelled c.self.inside.count c.self.inside.bytes.items)

-- what the buffer holds then
done : (c : goal.After-fit) → Holds (c.self.inside.count - 1) c.fit.new.bytes.items
    (remove (rows_spelled c.self.inside.count c.self.inside.bytes.items) c.args.at)
done c =
    let place : c.args.at < length (rows_spelled c.self.inside.count c.self.inside.bytes.items) =
    rw (← c.self.view_is) at c.requires in
    let first : c.row_at-start.result.0
    ≡ start c.args.at (rows_spelled c.self.inside.count c.self.inside.bytes.items) =
    rw (← c.self.view_is) at c.row_at-start.ensures.start in
    let last : c.row_at-start.result.1
    ≡ start (c.args.at + 1) (rows_spelled c.self.inside.count c.self.inside.bytes.items) =
    rw (← c.self.view_is) at c.row_at-start.ensures.end in
    let none : c.row_at-start.result.0 + 0 ≡ c.row_at-start.result.0 = omega arith in
    holds_removed c.self.inside.count c.self.inside.bytes.items c.self.invariant c.args.at c.fit.new.bytes.items place
    (rw first at c.fit.ensures.before) (rw (first, last) at
    (ap (λ (k : ℕ). drop k c.fit.new.bytes.items) (sym none) ∙ c.fit.ensures.after))

pub invariant_of-self : goal.invariant_of-self
invariant_of-self c = (done c.before).packed

pub returns : goal.returns
returns c = rw (← c.self.view_is) (done c.before).spelled
