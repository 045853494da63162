use Rattle.std.proofs.Common.{arith}
use Rattle.codec.specs.declared.dc_record.DcRecord.{DcRecord}
use Rattle.codec.specs.Frames.{any_length}
use Rattle.codec.specs.DcRecords.{dc_record_bytes, IsDcRecord, FitsFrame}
use Rattle.codec.specs.Reading.{dc_record_at}
use Rattle.codec.proofs.Frames.{one_frame_of, one_list}
use Rattle.codec.proofs.DcRecords.{dc_record_reads, dc_record_not_empty}
use Rattle.codec.proofs.dc_record.dc_record_spelling_law.Goals as goal

pub returns : goal.returns
returns c = record {
  one = λ a b x y p q e.
      one_frame_of DcRecord dc_record_bytes IsDcRecord dc_record_at dc_record_reads any_length (omega arith) a b x y p.0
      q.0
      (dc_record_not_empty a, omega (arith, p.1)) (dc_record_not_empty b, omega (arith, q.1)) e;
  all = one_list DcRecord dc_record_bytes IsDcRecord dc_record_at dc_record_reads any_length (omega arith) FitsFrame
      (λ r fits. fits.0)
      (λ r fits. (dc_record_not_empty r, omega (arith, fits.1)));
}
