use Rattle.tc_rewriting.proofs.Devices.{records_are}
use Rattle.tc_rewriting.proofs.Fitting.{answer_fits}
use Rattle.record_key.specs.declared.op.Op.TheVariants.{Insert}
use Rattle.history.specs.declared.record.Record.TheVariants as is
use Rattle.tc_rewriting.proofs.writing.insert.Goals as goal

pub append-requires-clause-fits : goal.append-requires-clause-fits
append-requires-clause-fits g c =
    let old = c.args.log.now in
    let new = c.append_op.new.self in
    let appended = c.in_ok-number.ensures.appended in
    answer_fits old.records new.records c.args.txn c.args.prev c.in_ok-number.number c.args.row.now c.copied.result
    c.copied-2.result c.requires.writing c.requires.lacks c.copied.ensures c.copied-2.ensures
    (records_are old new (is.Op c.args.txn c.args.prev (Insert c.copied.result c.copied-2.result)) c.in_ok-number.number
    appended) appended.number_is
