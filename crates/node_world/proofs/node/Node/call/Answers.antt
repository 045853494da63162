use Rattle.std.proofs.Common.{subst}
use Rattle.node_world.proofs.Doing.{DoesTc}
use Rattle.node_world.proofs.node.Node.call.Goals as goal

pub returns-in_default : goal.returns-in_default
returns-in_default g c =
    let n = c.args.self.now in
    rw c.next_of-next.ensures.same
    (subst (DoesTc n c.args.event.now c.call.new.out c.call.new.self) c.in_default.is
    (c.call.ensures.gives n.dc n.requests.messages n.replies.messages c.next_of-next.ensures.number
    c.requires.alone))

pub returns-in-Some : goal.returns-in-Some
returns-in-Some g c =
    let n = c.args.self.now in
    rw (c.push_reserved.ensures, c.next_of-next.ensures.same)
    (subst (DoesTc n c.args.event.now c.call.new.out c.call.new.self) c.in-Some.is
    (c.call.ensures.gives n.dc n.requests.messages n.replies.messages c.next_of-next.ensures.number
    c.requires.alone))
