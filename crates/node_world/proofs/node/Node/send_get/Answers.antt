use Rattle.std.proofs.Common.{subst}
use Rattle.std.specs.Prelude.{Ok}
use Rattle.codec.specs.declared.request.Request.{Request}
use Rattle.codec.specs.declared.request.Request.TheVariants as asks
use Rattle.node_sides.specs.tc_core.specs.Calls.{ResendGives}
use Rattle.node_sides.specs.tc_core.specs.TcView.{TcView}
use Rattle.node_sides.specs.node_laws.proofs.Halves.{sends_op}
use Rattle.node_sides.specs.node_laws.proofs.Invariant.Spellable.{resend_numbers}
use Rattle.node_world.proofs.node.Node.send_get.Goals as goal

pub push_reserved-requires-clause-put : goal.push_reserved-requires-clause-put
push_reserved-requires-clause-put g c =
    let w = c.in-Ok.tc.now in
    let q : Request = asks.Get w.session c.in_ok-read.read c.in_ok-read.key.now in
    rw c.session.ensures
    (resend_numbers w c.args.txn q c.kept.ensures c.in_ok-read.ensures.asked)

pub returns-clause-sent : goal.returns-clause-sent
returns-clause-sent g c =
    let n = c.args.self.now in
    let w = c.in-Ok.tc.now in
    let t = c.args.txn in
    let q : Request = asks.Get c.session.result c.in_ok-read.read c.in_ok-read.key.now in
    let given : ResendGives w t (Ok q) = rw c.session.ensures c.in_ok-read.ensures.asked in
    let gives : ResendGives n.tc.tc t (Ok q) =
    subst (λ (v : TcView). ResendGives v t (Ok q)) c.in-Ok.ensures.tc given in
    rw (c.push_reserved.ensures, c.in_ok-next.ensures.same)
    (sends_op n.tc n.dc n.requests.messages n.replies.messages t c.in_ok-next.next q c.in-Ok.ensures.up gives
    c.in_ok-next.ensures.number)
