use Rattle.std.proofs.Common.{[], refl}
use Rattle.codec.specs.PackedRows.{rows_spelled}
use Rattle.codec.proofs.PackedRows.{packs}
use Rattle.codec.proofs.row_buffer.RowBuffer.new.Goals as goal

pub invariant_of-result : goal.invariant_of-result
invariant_of-result c = packs [] 0 c.new.result.items c.new.ensures.items refl tt

pub returns : goal.returns
unfolding rows_spelled
returns c = refl
