use Rattle.std.proofs.Common.{◌∙◌, drop, arith}
use Rattle.codec.specs.declared.request.Request.{Request}
use Rattle.codec.specs.Frames.{any_length}
use Rattle.codec.specs.Requests.{request_bytes, IsRequest}
use Rattle.codec.specs.Reading.{request_at}
use Rattle.codec.proofs.Readers.{IsBytes-drop}
use Rattle.codec.proofs.Frames as frames
use Rattle.codec.proofs.Requests.{request_reads, request_fits}
use Rattle.codec.proofs.request.take_request.Goals as goal

pub returns : goal.returns
returns c =
    let at = c.args.at in
    let left = drop c.args.at c.args.bytes.now in
    record {
      found = frames.found Request request_bytes IsRequest request_at request_reads any_length at left c.in-Ok.taken
          (IsBytes-drop at c.args.bytes.now (λ i. omega (arith, c.type_inv.bytes i))) c.in-Ok.ensures.value;
      only = λ r rest fits e. c.in-Ok.ensures.value
          ∙ frames.only Request request_bytes IsRequest request_at request_reads any_length at left r rest fits
          (request_fits r fits).0 (request_fits r fits).1 (omega arith) e;
      short = frames.short Request request_at any_length at left c.in-Ok.taken c.in-Ok.ensures.value;
      bad = frames.bad Request request_at any_length at left c.in-Ok.taken c.in-Ok.ensures.value;
    }
