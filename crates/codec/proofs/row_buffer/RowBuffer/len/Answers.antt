use Rattle.std.proofs.Common.{◌∙◌, length, sym, ap}
use Rattle.codec.proofs.PackedRows.{length-spelled}
use Rattle.codec.proofs.row_buffer.RowBuffer.len.Goals as goal

pub returns : goal.returns
returns c = sym (length-spelled c.self.inside.count c.self.inside.bytes.items) ∙ ap (λ r. length r.rows) c.self.view_is
