use Rattle.std.proofs.Common.{◌≡◌, ◌∙◌, subst, rules, Option, Some}
use Rattle.std.specs.Prelude.{Ok}
use Rattle.codec.specs.declared.reply.Reply.{Reply}
use Rattle.node_laws.specs.dc_core.specs.Serves.{ServeGives}
use Rattle.node_laws.proofs.Halves.{replies_then}
use Rattle.node_laws.proofs.Invariant.Spellable.{reply_ordered}
use Rattle.node_sides.proofs.data_component.DataComponent.serve.Goals as goal

pub returns-in-Some : goal.returns-in-Some
returns-in-Some g c =
    let old = c.in-Up.dc in
    let new = c.serve_allowed.new.self in
    let q = c.args.request.now in
    let reply = c.in-Some.given in
    let Given : Option Reply → Type 0 = λ given. ServeGives old q (Ok given) new in
    let given : ServeGives old q (Ok (Some reply)) new =
    subst Given c.in-Some.is c.in-Ok-serve_allowed.ensures.gives in
    let number : c.args.next ≡ Some c.in-Ok-number_if.value =
    c.in-Ok-number_if.ensures.number (c.has_reply.ensures ∙ replies_then q reply old new given.1) in
    record {
      gives = search rules;
      spelled = reply_ordered q reply old new c.requires.numbers given.1;
      room = search rules;
    }
