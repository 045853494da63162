use Rattle.std.proofs.Common.{rules}
use Rattle.node_laws.proofs.Invariant.Spellable.{connect_numbers}
use Rattle.node_sides.proofs.transaction_component.TransactionComponent.reconnect.Goals as goal

pub returns : goal.returns
returns g c = record {
  gives = search rules;
  spelled =
      connect_numbers c.in-Up.tc c.reconnect.new.self c.in-Ok-reconnect.value c.in-Ok-reconnect.ensures.gives;
  room = search rules;
}
