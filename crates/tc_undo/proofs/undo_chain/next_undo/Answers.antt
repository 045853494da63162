use Rattle.std.proofs.Common.{◌<◌, arith, refl}
use Rattle.tc_undo.proofs.Undoing.{undone, undoable, fits_comp}
use Rattle.tc_undo.proofs.undo_chain.next_undo.Goals as goal

pub returns-then-undoes-above : goal.returns-then-undoes-above
returns-then-undoes-above g c =
    undone c.args.log.now.records c.args.chain c.requires c.left_to_undo-undoes.result c.left_to_undo-undoes.ensures
    c.args.above c.if-undoes-above.true

pub undoing-next-requires : goal.undoing-next-requires
undoing-next-requires g c =
    let some : 0 < c.left_to_undo-undoes.result = omega (arith, c.if-undoes-above.false) in
    undoable c.args.log.now.records c.args.chain c.requires c.left_to_undo-undoes.result c.left_to_undo-undoes.ensures
    some

pub returns : goal.returns
returns g c =
    let some : 0 < c.left_to_undo-undoes.result = omega (arith, c.if-undoes-above.false) in
    record {
      undoes = c.left_to_undo-undoes.result;
      next = c.undoing-next.result.0;
      inverse = c.undoing-next.result.1;
      is = refl;
      above_bound = omega (arith, c.if-undoes-above.false);
      fits = fits_comp c.args.log.now.records c.args.chain c.requires c.left_to_undo-undoes.result
          c.left_to_undo-undoes.ensures
          c.undoing-next.result.0 c.undoing-next.result.1 some c.undoing-next.ensures.next
          c.undoing-next.ensures.inverse;
    }
