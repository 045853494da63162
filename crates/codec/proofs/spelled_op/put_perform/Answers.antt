use Rattle.std.proofs.Common.{◌∙◌, ℕ, ◌+◌, List, ◌++◌, length, ap, arith}
use Rattle.codec.specs.Fields.{op_bytes}
use Rattle.codec.specs.Requests.{request_bytes}
use Rattle.codec.proofs.LongHeads.{longer_headed_frame}
use Rattle.codec.proofs.spelled_op.put_perform.Goals as goal

pub returns-clause-spelling : goal.returns-clause-spelling
unfolding request_bytes
returns-clause-spelling c = λ o is.
    let a = c.args in
    let started = c.put_longer_start.new.out.items in
    longer_headed_frame 2 (25 + length a.op.now) (op_bytes o) a.out.now.items _ started
    c.put_bytes.new.out.items c.in_ok-reserve.ensures.items
    (c.put_bytes.ensures.items ∙ ap (λ (b : List ℕ). started ++ b) is) a.session a.number a.stable
    c.put_longer_start.ensures.items (omega (arith, ap length is))
