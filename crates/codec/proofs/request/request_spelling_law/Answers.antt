use Rattle.std.proofs.Common.{arith}
use Rattle.codec.specs.declared.request.Request.{Request}
use Rattle.codec.specs.Frames.{any_length}
use Rattle.codec.specs.Requests.{request_bytes, IsRequest}
use Rattle.codec.specs.Reading.{request_at}
use Rattle.codec.proofs.Frames.{one_frame}
use Rattle.codec.proofs.Requests.{request_reads, request_fits}
use Rattle.codec.proofs.request.request_spelling_law.Goals as goal

pub returns : goal.returns
returns c = one_frame Request request_bytes IsRequest request_at request_reads any_length request_fits (omega arith)
