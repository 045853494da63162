use Rattle.std.proofs.Common.{◌∙◌, ap, drop, arith}
use Rattle.history.specs.declared.record.Record.{Record}
use Rattle.codec.specs.declared.frame.FrameEnd.{FrameEnd}
use Rattle.codec.specs.Records.{record_bytes, IsRecord}
use Rattle.codec.specs.Reading.{record_at, taken_at}
use Rattle.codec.proofs.Readers.{IsBytes-drop}
use Rattle.codec.proofs.Frames as frames
use Rattle.codec.proofs.Records.{record_reads, record_length}
use Rattle.codec.proofs.record.read_record.Goals as goal

pub returns : goal.returns
returns c =
    let at = c.args.at in
    let left = drop c.args.at c.args.bytes.now in
    let read = c.read_framed.new.value in
    let taken = taken_at at c.in-Ok.end read in
    let short = frames.short Record record_at 181 at left taken c.in-Ok.ensures.value in
    record {
      found = frames.found Record record_bytes IsRecord record_at record_reads 181 at left taken
          (IsBytes-drop at c.args.bytes.now (λ i. omega (arith, c.type_inv.bytes i))) c.in-Ok.ensures.value;
      only = λ r rest fits e. c.in-Ok.ensures.value
          ∙ frames.only Record record_bytes IsRecord record_at record_reads 181 at left r rest fits
          (record_length r fits).0 (record_length r fits).1 (omega arith) e;
      short = (
        λ e. short.0 (ap (λ (end : FrameEnd). taken_at at end read) e),
        λ is_cut. frames.no_end Record at c.in-Ok.end read (short.1 is_cut),
      );
    }
