use Rattle.std.proofs.Common.{subst}
use Rattle.shell_scripts.proofs.Printing.{prints_err, cut_in_list}
use Rattle.shell_scripts.specs.declared.pieces.Piece.{Piece}
use Rattle.shell_scripts.specs.Printed.{IsCut, piece_text}
use Rattle.shell_scripts.proofs.pieces.print.Goals as goal

pub returns-in_err-put_piece : goal.returns-in_err-put_piece
returns-in_err-put_piece g c =
    let Cut : Piece → Type 0 =
    λ p. IsCut (g.W.Write.contents c.loop-piece.writer) (g.W.Write.contents c.put_piece.new.writer) (piece_text p) in
    prints_err _ _ _ c.from_residual.result c.from_residual.ensures.0
    (cut_in_list piece_text _ _ _ c.args.pieces.now c.loop-piece.piece-index c.piece-item.result
    c.loop-piece-test.true c.loop-piece.invariant (subst Cut c.piece-item.is c.in_err-put_piece.ensures))
