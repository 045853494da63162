use Rattle.std.proofs.Common.{rules, ◌≡◌, ◌∙◌, ◌+◌, ◌<◌, ◌^◌, length}
use Rattle.codec.specs.declared.taken.Taken.TheVariants as took
use Rattle.codec.specs.Frames.{frame}
use Rattle.codec.specs.Replies.{reply_bytes}
use Rattle.codec.proofs.Frames.{not_taken}
use Rattle.codec.proofs.Replies.{reply_framed}
use Rattle.codec.proofs.parted.answered_at.Goals as goal

pub returns-in-Record : goal.returns-in-Record
returns-in-Record c = λ r rest fits e.
    let at = c.args.at in
    let there : length c.args.bytes.now < 2 ^ 64 = search rules in
    let same : took.Record c.in-Record.body.now c.in-Record.field-1
    ≡ took.Record (reply_bytes r) (at + length (frame (reply_bytes r))) =
    c.in-Record.ensures ∙ reply_framed r at c.args.bytes.now rest there e in
    c.answered_in.ensures r fits (cc same)

pub returns-in-Short : goal.returns-in-Short
returns-in-Short c = λ r rest fits e.
    let there : length c.args.bytes.now < 2 ^ 64 = search rules in
    absurd (not_taken _ _ _ _ c.in-Short.is
    (c.take_body.ensures ∙ reply_framed r c.args.at c.args.bytes.now rest there e))
