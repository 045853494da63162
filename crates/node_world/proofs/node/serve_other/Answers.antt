use Rattle.std.proofs.Common.{◌≡◌, ◌∙◌, ◌∷◌, ◌++◌, [], List, Option, ap, subst, true, None, Some}
use Rattle.codec.specs.declared.reply.Reply.{Reply}
use Rattle.codec.specs.Replies.{has_rows}
use Rattle.node_sides.specs.node_laws.specs.Halves.{DcServes}
use Rattle.node_sides.specs.node_laws.proofs.Halves.{roomy, unroomed}
use Rattle.node_world.proofs.Serving.{served}
use Rattle.node_world.proofs.node.serve_other.Goals as goal

pub returns-in_default : goal.returns-in_default
returns-in_default g c =
    let q = c.args.request.now in
    let serves =
    subst (λ (r : Option Reply). DcServes c.args.dc.now c.next-next.result (Some q) c.serve.new.out r c.serve.new.self)
    c.in_default.is c.serve.ensures.serves in
    served c.args.dc.now c.serve.new.self c.args.replies.now.messages c.next-next.new.self.messages c.next-next.result q
    c.serve.new.out None c.next-next.ensures.number serves c.next-next.ensures.same

pub returns-in-Err : goal.returns-in-Err
returns-in-Err g c =
    let q = c.args.request.now in
    let reply = c.in-Some.reply in
    let next = c.next-next.result in
    let before = c.args.replies.now.messages in
    let serves =
    subst (λ (r : Option Reply). DcServes c.args.dc.now next (Some q) c.serve.new.out r c.serve.new.self)
    c.in-Some.is c.serve.ensures.serves in
    let rows : has_rows reply ≡ true =
    c.in-Err.ensures.long
    (roomy next reply (c.next-next.new.self.has_room ≡ true) serves.room c.next-next.ensures.room) in
    λ i tc requests found.
    rw (c.in-Err.ensures.cause, c.in-Err.ensures.unchanged, c.next-next.ensures.same)
    (unroomed tc c.args.dc.now c.serve.new.self requests before i reply rows c.serve.new.out
    (serves.gives i tc requests before c.next-next.ensures.number found))

pub returns : goal.returns
returns g c =
    let q = c.args.request.now in
    let reply = c.in-Some.reply in
    let serves =
    subst (λ (r : Option Reply). DcServes c.args.dc.now c.next-next.result (Some q) c.serve.new.out r c.serve.new.self)
    c.in-Some.is c.serve.ensures.serves in
    served c.args.dc.now c.serve.new.self c.args.replies.now.messages c.push.new.self.messages c.next-next.result q
    c.serve.new.out (Some reply) c.next-next.ensures.number serves
    (c.in-Ok.ensures.appended ∙ ap (λ (rs : List Reply). rs ++ reply ∷ []) c.next-next.ensures.same)
