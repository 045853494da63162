use Rattle.std.proofs.Common.{◌≡◌, ◌≤◌, take, length}
use Rattle.codec.specs.PackedRows.{rows_spelled}
use Rattle.codec.proofs.RowEdits.{Holds, start, holds_taken}
use Rattle.codec.proofs.row_buffer.RowBuffer.truncate.Goals as goal

-- what the buffer holds then
done : (c : goal.After-self-1) → Holds c.args.at c.truncate.new.self.items
    (take c.args.at (rows_spelled c.self.inside.count c.self.inside.bytes.items))
done c =
    let place : c.args.at ≤ length (rows_spelled c.self.inside.count c.self.inside.bytes.items) =
    rw (← c.self.view_is) at c.requires in
    let at : c.start_of-start.result ≡ start c.args.at (rows_spelled c.self.inside.count c.self.inside.bytes.items) =
    rw (← c.self.view_is) at c.start_of-start.ensures in
    holds_taken c.self.inside.count c.self.inside.bytes.items c.self.invariant c.args.at c.truncate.new.self.items place
    (rw at at c.truncate.ensures.items)

pub invariant_of-self : goal.invariant_of-self
invariant_of-self c = (done c).packed

pub returns : goal.returns
returns c = rw (← c.self.view_is) (done c).spelled
