use Rattle.std.proofs.Common.{drop}
use Rattle.codec.specs.Fields.{IsNumber}
use Rattle.tc_rewriting.proofs.Fitting.{IsHalfWay}
use Rattle.tc_rewriting.proofs.writing.write_rows.Given as goal

abbrev pub invariant-loop-row : goal.invariant-loop-row
invariant-loop-row g l = record {
  half : IsHalfWay l.fn.log.records l.log.records l.txn l.prev l.rows (drop l.row-index l.rows);
  txn : IsNumber l.txn;
  prev : IsNumber l.prev;
}
