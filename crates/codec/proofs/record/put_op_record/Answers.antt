use Rattle.std.proofs.Common.{◌+◌, arith}
use Rattle.codec.specs.Fields.{op_bytes}
use Rattle.codec.specs.Records.{record_bytes}
use Rattle.codec.proofs.LongHeads.{long_headed_frame}
use Rattle.codec.proofs.record.put_op_record.Goals as goal

pub returns-clause-spelling : goal.returns-clause-spelling
unfolding record_bytes
returns-clause-spelling c =
    let a = c.args in
    long_headed_frame 3 (17 + c.op_len-length.result) (op_bytes a.op.now) a.out.now.items _
    c.put_long_start.new.out.items c.put_op.new.out.items c.in_ok-reserve.ensures.items c.put_op.ensures.items a.txn a.prev
    c.put_long_start.ensures.items (omega (arith, c.op_len-length.ensures.len))
