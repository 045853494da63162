use Rattle.std.proofs.Common.{rules, ◌≡◌, ◌∙◌, ◌+◌, ◌<◌, ◌^◌, length}
use Rattle.codec.specs.declared.taken.Taken.TheVariants as took
use Rattle.codec.specs.Frames.{frame}
use Rattle.codec.specs.Replies.{reply_bytes}
use Rattle.codec.proofs.Frames.{not_taken}
use Rattle.codec.proofs.Replies.{reply_framed}
use Rattle.codec.proofs.kept.kept_rows.Goals as goal

pub rows_in-requires : goal.rows_in-requires
rows_in-requires c =
    let framed = c.requires.stands in
    let there : length c.args.bytes.now < 2 ^ 64 = search rules in
    let same : took.Record c.in-Record.body.now c.in-Record.field-1
    ≡ took.Record (reply_bytes framed.0) (c.args.at + length (frame (reply_bytes framed.0))) =
    c.in-Record.ensures ∙ reply_framed framed.0 c.args.at c.args.bytes.now framed.1 there framed.3 in
    record { stands = (framed.0, framed.2, cc) }

pub unreachable-requires : goal.unreachable-requires
unreachable-requires c =
    let framed = c.requires.stands in
    let there : length c.args.bytes.now < 2 ^ 64 = search rules in
    not_taken _ _ _ _ c.in-Short.is
    (c.take_body.ensures ∙ reply_framed framed.0 c.args.at c.args.bytes.now framed.1 there framed.3)

pub returns-clause-rows : goal.returns-clause-rows
returns-clause-rows c = λ r rest fits e.
    let there : length c.args.bytes.now < 2 ^ 64 = search rules in
    let same : took.Record c.in-Record.body.now c.in-Record.field-1
    ≡ took.Record (reply_bytes r) (c.args.at + length (frame (reply_bytes r))) =
    c.in-Record.ensures ∙ reply_framed r c.args.at c.args.bytes.now rest there e in
    c.rows_in.ensures.rows r fits (cc same)

pub returns-clause-memory : goal.returns-clause-memory
returns-clause-memory c = λ r rest fits e.
    let there : length c.args.bytes.now < 2 ^ 64 = search rules in
    let same : took.Record c.in-Record.body.now c.in-Record.field-1
    ≡ took.Record (reply_bytes r) (c.args.at + length (frame (reply_bytes r))) =
    c.in-Record.ensures ∙ reply_framed r c.args.at c.args.bytes.now rest there e in
    c.rows_in.ensures.memory r fits (cc same)
