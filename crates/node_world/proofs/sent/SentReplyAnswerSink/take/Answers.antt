use Rattle.std.proofs.Common.{ap, ◌∙◌, option_map}
use Rattle.std.specs.Option.{option_copied}
use Rattle.codec.specs.declared.reply.Reply.TheVariants as says
use Rattle.record_key.specs.Lent.{answer_lent}
use Rattle.node_world.specs.Sent.{told_last}
use Rattle.node_world.proofs.Serving.{told_newest}
use Rattle.node_world.proofs.sent.SentReplyAnswerSink.take.Goals as goal

pub returns-clause-told : goal.returns-clause-told
returns-clause-told c =
    ap told_last c.push_reserved.ensures
    ∙ told_newest c.args.self.now.messages (says.Answered c.args.asker c.args.number (option_map answer_lent (option_copied c.args.answer)))
