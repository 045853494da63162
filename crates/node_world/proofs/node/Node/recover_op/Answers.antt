use Rattle.std.proofs.Common.{subst, sym}
use Rattle.std.specs.Prelude.{Ok}
use Rattle.codec.specs.declared.request.Request.{Request}
use Rattle.codec.specs.declared.request.Request.TheVariants as asks
use Rattle.node_sides.specs.tc_core.specs.declared.told.RecoverStep.TheVariants as step
use Rattle.node_sides.specs.tc_core.specs.Recovery.{RecoverGives, SendsOp}
use Rattle.node_sides.specs.tc_core.specs.TcView.{TcView}
use Rattle.node_sides.specs.node_laws.proofs.Recovered.{gives_spelled, sends_recovery, spelled_request}
use Rattle.node_world.proofs.SpelledOp.{op_given}
use Rattle.node_world.proofs.node.Node.recover_op.Goals as goal

pub push_reserved-requires-clause-put : goal.push_reserved-requires-clause-put
push_reserved-requires-clause-put g c =
    let old = c.args.self.now.tc.tc in
    let w = c.in-Ok.tc.now in
    let number = c.in_ok-number.number in
    let asked = c.in-Some.ensures.asked in
    let sends : SendsOp old number w =
    subst (λ (v : TcView). SendsOp old number v) (sym c.in-Ok.ensures.tc) c.in_ok-number.ensures.sent in
    rw (c.session.ensures, c.stable_end.ensures)
    (asked.op, (asked.spelled, spelled_request old w number c.in-Some.op.now sends asked c.kept.ensures))

pub returns-clause-sent : goal.returns-clause-sent
returns-clause-sent g c =
    let n = c.args.self.now in
    let old = n.tc.tc in
    let new = c.recover_op.new.self in
    let w = c.in-Ok.tc.now in
    let number = c.in_ok-number.number in
    let asked = c.in-Some.ensures.asked in
    let sends : SendsOp old number w =
    subst (λ (v : TcView). SendsOp old number v) (sym c.in-Ok.ensures.tc) c.in_ok-number.ensures.sent in
    let q : Request = asks.Perform c.session.result number c.stable_end.result asked.op in
    let given : RecoverGives old (Ok (step.Sends q)) w =
    rw (c.session.ensures, c.stable_end.ensures) (gives_spelled old w number c.in-Some.op.now sends asked) in
    let gives : RecoverGives old (Ok (step.Sends q)) new.tc =
    subst (λ (v : TcView). RecoverGives old (Ok (step.Sends q)) v) c.in-Ok.ensures.tc given in
    let fits = spelled_request old w number c.in-Some.op.now sends asked c.kept.ensures in
    rw (c.push_reserved.ensures, op_given c.in-Some.op.now asked.op asked.spelled fits.1.1.1, c.in_ok-next.ensures.same)
    (sends_recovery n.tc new n.dc n.requests.messages n.replies.messages c.in_ok-next.next q
    c.in_ok-number.ensures.up.0 c.in_ok-number.ensures.up.1 gives c.in_ok-next.ensures.number)
