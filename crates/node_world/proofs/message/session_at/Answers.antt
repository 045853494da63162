use Rattle.std.proofs.Common.{◌∙◌, sym, ap}
use Rattle.std.proofs.lemmas.Option.{same_Some}
use Rattle.codec.specs.Replies.{session_of}
use Rattle.node_world.specs.SentReads.{reply_reads}
use Rattle.node_world.proofs.message.session_at.Goals as goal

pub returns : goal.returns
returns c =
    let there = c.requires in
    same_Some _ _ (sym c.in-Some.is ∙ c.reply_session.ensures there.message there.rest there.fits.0 there.parts)
    ∙ ap session_of (sym (reply_reads c.args.bytes.now c.args.place there))
