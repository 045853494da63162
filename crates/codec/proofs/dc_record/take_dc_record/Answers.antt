use Rattle.std.proofs.Common.{◌∙◌, drop, length-drop, arith}
use Rattle.codec.specs.declared.dc_record.DcRecord.{DcRecord}
use Rattle.codec.specs.DcRecords.{dc_record_bytes, IsDcRecord}
use Rattle.codec.specs.Frames.{any_length}
use Rattle.codec.specs.Reading.{dc_record_at}
use Rattle.codec.proofs.Readers.{IsBytes-drop}
use Rattle.codec.proofs.Frames as frames
use Rattle.codec.proofs.DcRecords.{dc_record_reads, dc_record_not_empty}
use Rattle.codec.proofs.dc_record.take_dc_record.Goals as goal

pub returns : goal.returns
returns c =
    let at = c.args.at in
    let left = drop c.args.at c.args.bytes.now in
    let taken = c.in_ok-taken.taken in
    let exact = c.in_ok-taken.ensures.value in
    record {
      found = frames.found DcRecord dc_record_bytes IsDcRecord dc_record_at dc_record_reads any_length at left taken
          (IsBytes-drop at c.args.bytes.now (λ i. omega (arith, c.type_inv.bytes i))) exact;
      only = λ r rest fits e. exact
          ∙ frames.only_any DcRecord dc_record_bytes IsDcRecord dc_record_at dc_record_reads at left r rest fits
          (dc_record_not_empty r)
          (omega (arith, length-drop at c.args.bytes.now, c.take_framed.ensures.fits)) e;
      short = frames.short DcRecord dc_record_at any_length at left taken exact;
      bad = frames.bad DcRecord dc_record_at any_length at left taken exact;
      cause = tt;
      memory = tt;
    }
