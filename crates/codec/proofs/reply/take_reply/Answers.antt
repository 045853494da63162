use Rattle.std.proofs.Common.{◌∙◌, drop, length-drop, arith}
use Rattle.codec.specs.declared.reply.Reply.{Reply}
use Rattle.codec.specs.Replies.{reply_bytes, IsReply}
use Rattle.codec.specs.Frames.{any_length}
use Rattle.codec.specs.Reading.{reply_at}
use Rattle.codec.proofs.Readers.{IsBytes-drop}
use Rattle.codec.proofs.Frames as frames
use Rattle.codec.proofs.Replies.{reply_reads, reply_not_empty}
use Rattle.codec.proofs.reply.take_reply.Goals as goal

pub returns : goal.returns
returns c =
    let at = c.args.at in
    let left = drop c.args.at c.args.bytes.now in
    let taken = c.in_ok-taken.taken in
    let exact = c.in_ok-taken.ensures.value in
    record {
      found = frames.found Reply reply_bytes IsReply reply_at reply_reads any_length at left taken
          (IsBytes-drop at c.args.bytes.now (λ i. omega (arith, c.type_inv.bytes i))) exact;
      only = λ r rest fits e. exact
          ∙ frames.only_any Reply reply_bytes IsReply reply_at reply_reads at left r rest fits (reply_not_empty r)
          (omega (arith, length-drop at c.args.bytes.now, c.take_framed.ensures.fits)) e;
      short = frames.short Reply reply_at any_length at left taken exact;
      bad = frames.bad Reply reply_at any_length at left taken exact;
      cause = tt;
      memory = tt;
    }
