use Rattle.std.proofs.Common.{rules}
use Rattle.node_laws.proofs.Invariant.Spellable.{resend_numbers}
use Rattle.node_sides.proofs.transaction_component.TransactionComponent.send.Goals as goal

pub returns : goal.returns
returns g c = record {
  gives = search rules;
  spelled = resend_numbers c.in-Up.tc c.args.txn c.in-Ok.value c.kept.ensures c.in-Ok.ensures.gives;
  room = search rules;
}
