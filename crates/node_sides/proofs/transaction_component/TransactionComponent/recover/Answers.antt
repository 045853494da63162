use Rattle.std.proofs.Common.{◌≡◌, ◌∙◌, ap, subst, rules, Some}
use Rattle.std.specs.Prelude.{Ok}
use Rattle.node_laws.specs.tc_core.specs.declared.told.RecoverStep.{RecoverStep}
use Rattle.node_laws.specs.tc_core.specs.declared.told.RecoverStep.TheVariants as step
use Rattle.node_laws.specs.tc_core.specs.Recovery.{RecoverGives}
use Rattle.node_laws.specs.Node.{sends_at}
use Rattle.node_laws.proofs.Halves.{sends_then}
use Rattle.node_laws.proofs.Invariant.Spellable.{recover_numbers}
use Rattle.node_sides.proofs.transaction_component.TransactionComponent.recover.Goals as goal

pub returns-in-Sends : goal.returns-in-Sends
returns-in-Sends g c =
    let old = c.in-Up.tc in
    let new = c.recover_step.new.self in
    let sent = c.in-Sends.sent in
    let Gives : RecoverStep → Type 0 = λ step. RecoverGives old (Ok step) new in
    let given : RecoverGives old (Ok (step.Sends sent)) new =
    subst Gives c.in-Sends.is c.in-Ok-recover_step.ensures.gives in
    let number : c.args.next ≡ Some c.in-Ok.value =
    c.in-Ok.ensures.number (c.sends.ensures ∙ ap sends_at c.phase.ensures ∙ sends_then old new sent given) in
    record {
      gives = search rules;
      spelled = recover_numbers old new sent c.kept.ensures given;
      room = search rules;
    }
