use Rattle.std.proofs.Common.{arith}
use Rattle.history.specs.declared.record.Record.{Record}
use Rattle.codec.specs.Records.{record_bytes, IsRecord}
use Rattle.codec.specs.Reading.{record_at}
use Rattle.codec.proofs.Frames.{one_frame, one_list}
use Rattle.codec.proofs.Records.{record_reads, record_length}
use Rattle.codec.proofs.record.record_spelling_law.Goals as goal

pub returns : goal.returns
returns c = record {
  one = one_frame Record record_bytes IsRecord record_at record_reads 181 record_length (omega arith);
  all = one_list Record record_bytes IsRecord record_at record_reads 181 (omega arith) IsRecord (λ r fits. fits)
      record_length;
}
