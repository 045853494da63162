use Rattle.std.proofs.Common.{◌∙◌, sym, ap, length}
use Rattle.codec.proofs.PackedRows.{length-spelled}
use Rattle.codec.proofs.lent_rows.LentRows.len.Goals as goal

pub returns : goal.returns
returns c = sym (length-spelled c.self.inside.count c.self.inside.bytes.now) ∙ ap length c.self.view_is
