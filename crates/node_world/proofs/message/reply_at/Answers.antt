use Rattle.std.proofs.Common.{rules, ◌≡◌, ◌∙◌, sym, ap, drop, true}
use Rattle.codec.specs.Replies.{has_rows}
use Rattle.node_world.specs.SentReads.{reply_reads}
use Rattle.codec.proofs.Replies.{rows_framed}
use Rattle.node_world.specs.Sent.{reply_there}
use Rattle.node_world.proofs.Framed.{record_is, rows_are}
use Rattle.node_world.proofs.message.reply_at.Goals as goal

pub kept_rows-requires : goal.kept_rows-requires
kept_rows-requires c =
    let there = c.requires in
    record { stands = (there.message, there.rest, there.fits.0, there.parts) }

pub returns-in_err-reply-clause-refused : goal.returns-in_err-reply-clause-refused
returns-in_err-reply-clause-refused c =
    let there = c.requires in
    let rows : has_rows (reply_there c.args.bytes.now c.args.place) ≡ true =
    ap has_rows (reply_reads c.args.bytes.now c.args.place there)
    ∙ c.in_err-reply.ensures.memory there.message there.rest there.fits.0 there.parts in
    search rules

pub returns-in-Some-clause-found : goal.returns-in-Some-clause-found
returns-in-Some-clause-found c =
    let there = c.requires in
    rows_are there.message c.in-Some.reply
    (sym c.in-Some.is ∙ c.in_ok-reply.ensures.rows there.message there.rest there.fits.0 there.parts)
    ∙ sym (reply_reads c.args.bytes.now c.args.place there)

pub returns-in_err-reply-2-clause-refused : goal.returns-in_err-reply-2-clause-refused
returns-in_err-reply-2-clause-refused c =
    let rows : has_rows (reply_there c.args.bytes.now c.args.place) ≡ true =
    ap has_rows (reply_reads c.args.bytes.now c.args.place c.requires)
    ∙ rows_framed (drop c.args.place c.args.bytes.now) c.requires.message c.requires.rest c.requires.fits.1
    c.requires.parts c.in_err-reply-2.ensures.memory in
    search rules

pub returns-clause-found : goal.returns-clause-found
returns-clause-found c =
    let there = c.requires in
    record_is (sym c.in-Record.is ∙ c.in_ok-reply-2.ensures.only there.message there.rest there.fits.0 there.parts)
    ∙ sym (reply_reads c.args.bytes.now c.args.place there)
