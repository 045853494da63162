use Rattle.std.proofs.Common.{arith}
use Rattle.codec.specs.declared.reply.Reply.{Reply}
use Rattle.codec.specs.Frames.{any_length}
use Rattle.codec.specs.Replies.{reply_bytes, IsReply}
use Rattle.codec.specs.Reading.{reply_at}
use Rattle.codec.proofs.Frames.{one_frame_of}
use Rattle.codec.proofs.Replies.{reply_reads, reply_not_empty}
use Rattle.codec.proofs.reply.reply_spelling_law.Goals as goal

pub returns : goal.returns
returns c = λ a b x y p q small_a small_b e.
    one_frame_of Reply reply_bytes IsReply reply_at reply_reads any_length (omega arith) a b x y p q
    (reply_not_empty a, omega arith) (reply_not_empty b, omega arith) e
