use Rattle.std.proofs.Common.{◌∙◌, ◌∷◌, ◌++◌, [], List, ap}
use Rattle.codec.specs.declared.reply.Reply.{Reply}
use Rattle.codec.specs.Parted.{request_to}
use Rattle.node_sides.specs.dc_core.specs.Performing.{reply_with}
use Rattle.record_key.specs.Lent.{op_lent}
use Rattle.node_world.specs.Sent.{SentView, told_last}
use Rattle.node_world.proofs.Serving.{served, also_answered}
use Rattle.node_world.proofs.node.serve_op.Goals as goal

pub returns : goal.returns
returns g c =
    let before = c.args.replies.now.messages in
    let after = c.perform-replied.new.sink in
    let told = told_last after.messages in
    served c.args.dc.now c.perform-replied.new.self before after.messages c.next-next.result
    (request_to c.args.asking (op_lent c.args.op.now)) c.perform-replied.new.out _ c.next-next.ensures.number
    c.perform-replied.ensures.serves
    (also_answered c.args.asking c.perform-replied.result told before after.messages
    (λ replied. c.perform-replied.ensures.given replied
    ∙ ap (λ (rs : List Reply). rs ++ reply_with c.args.asking told ∷ []) c.next-next.ensures.same)
    (λ none. ap (λ (v : SentView Reply). v.messages) (c.perform-replied.ensures.untold none)
    ∙ c.next-next.ensures.same))
