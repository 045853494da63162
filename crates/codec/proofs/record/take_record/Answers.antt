use Rattle.std.proofs.Common.{◌≡◌, ◌∙◌, ap, sym, subst, drop}
use Rattle.history.specs.declared.record.Record.{Record}
use Rattle.codec.specs.declared.frame.FrameEnd.{FrameEnd}
use Rattle.codec.specs.declared.taken.Taken.{Taken}
use Rattle.codec.specs.Frames.{IfTaken, IfBad, IsThere}
use Rattle.codec.specs.Records.{record_bytes, IsRecord}
use Rattle.codec.specs.Reading.{taken_at}
use Rattle.codec.proofs.Frames as frames
use Rattle.codec.proofs.record.take_record.Goals as goal

pub returns : goal.returns
returns c =
    let at = c.args.at in
    let left = drop c.args.at c.args.bytes.now in
    let end = c.read_record-end.result in
    let read = c.read_record-end.new.«record» in
    let told = c.read_record-end.ensures in
    let is = c.taken_at.ensures in
    record {
      found = subst (λ (t : Taken Record). IfTaken t (IsThere Record record_bytes IsRecord at left)) (sym is) told.found;
      only = λ r rest fits e. is ∙ told.only r rest fits e;
      short = (
        λ e. told.short.0 (frames.no_end Record at end read (sym is ∙ e)),
        λ is_cut. is ∙ ap (λ (end : FrameEnd). taken_at at end read) (told.short.1 is_cut),
      );
      bad = subst (λ (t : Taken Record). IfBad t (λ place. place ≡ at)) (sym is) (frames.bad_at Record at end read);
    }
