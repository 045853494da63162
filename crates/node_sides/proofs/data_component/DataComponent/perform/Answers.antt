use Rattle.std.proofs.Common.{◌≡◌, subst, rules, Some}
use Rattle.std.specs.Prelude.{Ok, Result}
use Rattle.record_key.specs.Lent.{op_lent}
use Rattle.record_key.specs.declared.refusal.Refusal.{Refusal}
use Rattle.codec.specs.Parted.{request_to}
use Rattle.node_laws.specs.dc_core.specs.Performing.{replied, reply_with}
use Rattle.node_laws.specs.dc_core.specs.Serves.{ServeGives}
use Rattle.node_laws.proofs.Invariant.Spellable.{reply_ordered}
use Rattle.node_sides.proofs.data_component.DataComponent.perform.Goals as goal

pub returns-in-Ok-clause-serves : goal.returns-in-Ok-clause-serves
returns-in-Ok-clause-serves g c =
    let old = c.in-Up.dc in
    let new = c.perform.new.self in
    let q = request_to c.args.asking (op_lent c.args.op.now) in
    let told = g.S.AnswerSink.told c.perform.new.sink in
    let reply = reply_with c.args.asking told in
    let Given : Result Unit Refusal → Type 0 = λ done. ServeGives old q (replied c.args.asking done told) new in
    let given : ServeGives old q (Ok (Some reply)) new = subst Given c.in-Ok.is c.perform.ensures.gives in
    let next : c.args.next ≡ Some c.in-Some.number = c.in-Some.is in
    rw next (record {
      gives = search rules;
      spelled = reply_ordered q reply old new c.requires.numbers given.1;
      room = search rules;
    })
