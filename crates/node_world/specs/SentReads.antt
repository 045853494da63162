-- What stands at a place of messages' bytes is read there: the law of each kind of message.
use Rattle.std.specs.Prelude.{◌≡◌, ℕ, List, drop}
use Rattle.std.proofs.Common.{ap}
use Rattle.codec.specs.Requests.{request_bytes, IsRequest}
use Rattle.codec.specs.Replies.{reply_bytes}
use Rattle.codec.specs.declared.request.Request.{Request}
use Rattle.codec.specs.declared.request.Request.TheVariants as asks
use Rattle.codec.specs.declared.reply.Reply.{Reply}
use Rattle.codec.specs.declared.reply.Reply.TheVariants as says
use Rattle.codec.proofs.Requests.{request_taken}
use Rattle.codec.proofs.Replies.{reply_taken}
use Rattle.framed_log.specs.Spelled.{taken_or}
use Rattle.node_world.specs.Sent.{StandsAt, read_there, request_there, reply_there, IsFramedReply}

pub request_reads : (bytes : List ℕ) (place : ℕ) (there : StandsAt Request request_bytes IsRequest bytes place)
    → request_there bytes place ≡ there.message
unfolding read_there
request_reads bytes place there =
    ap (taken_or (asks.RedoEnd 0))
    (request_taken place (drop place bytes) there.message there.rest there.fits there.parts)

pub reply_reads : (bytes : List ℕ) (place : ℕ) (there : StandsAt Reply reply_bytes IsFramedReply bytes place)
    → reply_there bytes place ≡ there.message
unfolding read_there
reply_reads bytes place there =
    ap (taken_or (says.RedoEnded 0))
    (reply_taken place (drop place bytes) there.message there.rest there.fits.0 there.fits.1 there.parts)
