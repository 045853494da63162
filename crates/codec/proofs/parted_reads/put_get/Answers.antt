use Rattle.std.proofs.Common.{◌≤◌, ◌∙◌, ◌+◌, ◌++◌, ℕ, ap, arith, length}
use Rattle.codec.specs.declared.request.Request.TheVariants as asks
use Rattle.codec.specs.Fields.{text}
use Rattle.codec.specs.Requests.{request_bytes}
use Rattle.record_key.specs.Table.{Bytes}
use Rattle.codec.proofs.LongHeads.{headed_length, long_headed_frame}
use Rattle.codec.proofs.parted_reads.put_get.Goals as goal

short : (session read : ℕ) (key : Bytes) → length key ≤ 32 → length (request_bytes (asks.Get session read key)) ≤ 256
unfolding request_bytes
short session read key fits = omega (arith, headed_length 3 session read (text key))

pub returns-in_err-reserve-clause-short : goal.returns-in_err-reserve-clause-short
returns-in_err-reserve-clause-short c =
    short c.args.session c.args.read c.args.key.now c.key_len-length.ensures.spelled.1

pub returns-clause-spelling : goal.returns-clause-spelling
unfolding request_bytes
returns-clause-spelling c =
    let a = c.args in
    let started = c.put_long_start.new.out.items in
    long_headed_frame 3 (17 + c.key_len-length.result) (text a.key.now) a.out.now.items _ started
    c.put_text.new.out.items c.in_ok-reserve.ensures.items
    (c.put_text.ensures.items ∙ ap (λ (key : Bytes). started ++ text key) c.as_bytes.ensures.bytes) a.session a.read
    c.put_long_start.ensures.items (omega (arith, c.key_len-length.ensures.len))

pub returns-clause-short : goal.returns-clause-short
returns-clause-short c =
    short c.args.session c.args.read c.args.key.now c.key_len-length.ensures.spelled.1
