use Rattle.std.proofs.Common.{◌+◌, arith}
use Rattle.record_key.specs.Lent.{answer_lent}
use Rattle.codec.specs.Fields.{answer_bytes}
use Rattle.codec.specs.Records.{record_bytes}
use Rattle.codec.proofs.LongHeads.{headed_frame}
use Rattle.codec.proofs.record.put_answer_record.Goals as goal

pub returns-clause-spelling : goal.returns-clause-spelling
unfolding record_bytes
returns-clause-spelling c =
    let a = c.args in
    headed_frame 4 (9 + c.answer_len-length.result) (answer_bytes (answer_lent a.answer.now)) a.out.now.items
    _ c.put_start.new.out.items c.put_answer.new.out.items c.in_ok-reserve.ensures.items
    c.put_answer.ensures.items a.of c.put_start.ensures.items (omega (arith, c.answer_len-length.ensures.len))
