use Rattle.std.proofs.Common.{◌+◌, ◌++◌, ap, ◌∙◌, length, arith}
use Rattle.codec.specs.Fields.{answer_bytes}
use Rattle.codec.specs.Records.{record_bytes}
use Rattle.codec.proofs.LongHeads.{headed_frame}
use Rattle.codec.proofs.spelled_answer.put_spelled_answer.Goals as goal

pub returns-clause-spelling : goal.returns-clause-spelling
unfolding record_bytes
returns-clause-spelling c =
    let a = c.args in
    headed_frame 4 (9 + length c.as_bytes-spelled.result.now) (answer_bytes a.answer.now) a.out.now.items
    _ c.put_start.new.out.items c.put_bytes.new.out.items c.in_ok-reserve.ensures.items
    (c.put_bytes.ensures.items ∙ ap (λ b. c.put_start.new.out.items ++ b) c.as_bytes-spelled.ensures.bytes) a.of
    c.put_start.ensures.items (omega (arith, ap length c.as_bytes-spelled.ensures.bytes))
