-- Bytes hold the frames of one log.
use Rattle.std.proofs.Common.{◌<◌, ◌≤◌, length, arith}
use Rattle.codec.specs.declared.dc_record.DcRecord.{DcRecord}
use Rattle.codec.specs.DcRecords.{dc_record_bytes, IsDcRecord, FitsFrame}
use Rattle.codec.specs.Frames.{any_length}
use Rattle.codec.specs.Reading.{dc_record_at}
use Rattle.codec.proofs.DcRecords.{dc_record_reads, dc_record_not_empty}
use Rattle.codec.proofs.Frames.{one_frame_of, only}
use Rattle.framed_log.proofs.Framing.{IsFraming}
use Rattle.framed_log.proofs.ReadOnce.{once, just_frames}
use Rattle.dc_store.specs.Devices.{framing}
use Rattle.dc_store.specs.Restarts.{FramesReadOnce}

bounds : (r : DcRecord) → FitsFrame r → (0 < length (dc_record_bytes r)) × (length (dc_record_bytes r) ≤ any_length)
bounds r fits = (dc_record_not_empty r, omega (arith, fits.1))

-- records are told apart in their frames
pub log_framing : IsFraming framing
log_framing = record {
  bounds = bounds;
  small = omega arith;
  one_frame = λ r s x y fits also.
      one_frame_of DcRecord dc_record_bytes IsDcRecord dc_record_at dc_record_reads any_length (omega arith)
      r s x y fits.0 also.0 (bounds r fits) (bounds s also);
  taken = λ place left r rest fits is.
      only DcRecord dc_record_bytes IsDcRecord dc_record_at dc_record_reads any_length place left r rest fits.0
      (bounds r fits).0 (bounds r fits).1 (omega arith) is;
}

pub frames_read_once : FramesReadOnce
frames_read_once = record {
  once = once log_framing;
  cut = λ bytes log h. just_frames framing log h.records;
}
