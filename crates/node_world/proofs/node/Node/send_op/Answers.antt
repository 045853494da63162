use Rattle.std.proofs.Common.{subst}
use Rattle.std.specs.Prelude.{Ok}
use Rattle.codec.specs.declared.request.Request.{Request}
use Rattle.codec.specs.declared.request.Request.TheVariants as asks
use Rattle.node_sides.specs.tc_core.specs.Calls.{ResendGives}
use Rattle.node_sides.specs.tc_core.specs.TcView.{TcView}
use Rattle.node_sides.specs.node_laws.proofs.Halves.{sends_op}
use Rattle.node_sides.specs.node_laws.proofs.Invariant.Spellable.{awaited_spelled}
use Rattle.node_world.proofs.SpelledOp.{op_given}
use Rattle.node_world.proofs.node.Node.send_op.Goals as goal

pub push_reserved-requires-clause-put : goal.push_reserved-requires-clause-put
push_reserved-requires-clause-put g c =
    let awaited = c.in_ok-number.ensures.sent in
    let asked = awaited.asked in
    rw (c.session.ensures, c.stable_end.ensures) (
      asked.op,
      (
        asked.spelled,
        awaited_spelled c.in-Ok.tc.now c.args.txn c.in_ok-number.number c.in_ok-number.op.now
            c.kept.ensures awaited,
      ),
    )

pub returns-clause-sent : goal.returns-clause-sent
returns-clause-sent g c =
    let n = c.args.self.now in
    let w = c.in-Ok.tc.now in
    let t = c.args.txn in
    let number = c.in_ok-number.number in
    let awaited = c.in_ok-number.ensures.sent in
    let asked = awaited.asked in
    let q : Request = asks.Perform c.session.result number c.stable_end.result asked.op in
    let given : ResendGives w t (Ok q) = rw (c.session.ensures, c.stable_end.ensures) awaited.gives in
    let gives : ResendGives n.tc.tc t (Ok q) =
    subst (λ (v : TcView). ResendGives v t (Ok q)) c.in-Ok.ensures.tc given in
    let op = c.in_ok-number.op.now in
    let fits = awaited_spelled w t number op c.kept.ensures awaited in
    rw (c.push_reserved.ensures, op_given op asked.op asked.spelled fits.1.1.1, c.in_ok-next.ensures.same)
    (sends_op n.tc n.dc n.requests.messages n.replies.messages t c.in_ok-next.next q c.in-Ok.ensures.up gives
    c.in_ok-next.ensures.number)
