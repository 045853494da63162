use Rattle.std.proofs.Common.{◌<◌, arith, refl}
use Rattle.tc_log.specs.Undoing.{comp_at}
use Rattle.tc_undo.proofs.Numbers.{fits_numbers}
use Rattle.tc_undo.proofs.Undoing.{undone, fits_at, compensated}
use Rattle.tc_undo.proofs.undo_chain.append_undo.Goals as goal

pub append_comp-requires : goal.append_comp-requires
append_comp-requires g c =
    let log = c.args.log.now.records in
    let u = c.left_to_undo-undoes.result in
    let some : 0 < u = omega (arith, c.if-undoes-above.false) in
    let fits = fits_at log c.args.chain c.requires u c.left_to_undo-undoes.ensures some in
    record {
      fits = fits;
      numbers = fits_numbers log (comp_at log c.args.chain.txn u) (omega (arith, c.len-count.ensures.numbered)) fits;
    }

pub returns-then-undoes-above-clause-undoes : goal.returns-then-undoes-above-clause-undoes
returns-then-undoes-above-clause-undoes g c = (
  undone c.args.log.now.records c.args.chain c.requires c.left_to_undo-undoes.result c.left_to_undo-undoes.ensures
      c.args.above c.if-undoes-above.true,
  refl,
)

pub returns-in-Ok-clause-undoes : goal.returns-in-Ok-clause-undoes
returns-in-Ok-clause-undoes g c =
    let log = c.args.log.now.records in
    let u = c.left_to_undo-undoes.result in
    record {
      compensation = comp_at log c.args.chain.txn u;
      next = compensated log c.args.chain c.requires u c.left_to_undo-undoes.ensures c.args.above
          (omega (arith, c.if-undoes-above.false));
      appended = c.in-Ok.ensures.appended;
      undo_next = c.in-Ok.ensures.told.next;
      asks = c.in-Ok.ensures.told.asks;
    }

pub returns-in-Err-clause-found : goal.returns-in-Err-clause-found
returns-in-Err-clause-found g c =
    let log = c.args.log.now.records in
    let u = c.left_to_undo-undoes.result in
    record {
      compensation = comp_at log c.args.chain.txn u;
      next = compensated log c.args.chain c.requires u c.left_to_undo-undoes.ensures c.args.above
          (omega (arith, c.if-undoes-above.false));
    }
