use Rattle.std.proofs.Common.{◌≤◌, ◌+◌, ℕ, Option, arith, length}
use Rattle.std.specs.Prelude.{IfSome}
use Rattle.std.specs.Option.{option_copied}
use Rattle.record_key.specs.Table.{Bytes}
use Rattle.codec.specs.declared.reply.Reply.TheVariants as says
use Rattle.codec.specs.Fields.{optional, text, IsValue}
use Rattle.codec.specs.Replies.{reply_bytes}
use Rattle.codec.proofs.Fields.{optional_length}
use Rattle.codec.proofs.LongHeads.{headed_length, long_headed_frame}
use Rattle.codec.proofs.parted_reads.put_found.Goals as goal

text_length : (value : Bytes) → IsValue value → length (text value) ≤ 121
text_length value fits = omega (arith, fits.1)

short : (session read : ℕ) (o : Option Bytes) → IfSome o IsValue → length (reply_bytes (says.Row session read o)) ≤ 256
unfolding reply_bytes
short session read o fits =
    omega (
      arith,
      headed_length 19 session read (optional text o),
      optional_length text IsValue 121 text_length o fits,
    )

pub returns-in_err-reserve-clause-short : goal.returns-in_err-reserve-clause-short
returns-in_err-reserve-clause-short c =
    short c.args.session c.args.read _ c.optional_value_len-length.ensures.spelled

pub returns-clause-spelling : goal.returns-clause-spelling
unfolding reply_bytes
returns-clause-spelling c =
    let a = c.args in
    long_headed_frame 19 (17 + c.optional_value_len-length.result) (optional text (option_copied a.value))
    a.out.now.items _ c.put_long_start.new.out.items c.put_optional_value.new.out.items c.in_ok-reserve.ensures.items
    c.put_optional_value.ensures.items a.session a.read c.put_long_start.ensures.items
    (omega (arith, c.optional_value_len-length.ensures.len))

pub returns-clause-short : goal.returns-clause-short
returns-clause-short c =
    short c.args.session c.args.read _ c.optional_value_len-length.ensures.spelled
