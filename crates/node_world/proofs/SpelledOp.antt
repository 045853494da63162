-- An operation that is handed on as its bytes is the one that they spell.
use Rattle.std.proofs.Common.{◌≡◌, ◌∙◌, ℕ, List, [], Some, refl, sym, ap}
use Rattle.std.proofs.lemmas.List.{append-nil}
use Rattle.record_key.specs.declared.op.Op.{Op}
use Rattle.codec.specs.Fields.{op_bytes, IsOp}
use Rattle.codec.specs.Reading.{op_at}
use Rattle.codec.proofs.Fields.{op_reads}
use Rattle.node_world.specs.SpelledOp.{op_spelled}

pub op_given : (bytes : List ℕ) (o : Op) → bytes ≡ op_bytes o → IsOp o → op_spelled bytes ≡ o
unfolding op_spelled
op_given bytes o is fits =
    let read : op_at bytes ≡ Some (o, []) =
    ap op_at (is ∙ sym (append-nil (op_bytes o))) ∙ op_reads.again o [] fits in
    rw (read, op_spelled) refl
