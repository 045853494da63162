use Rattle.std.proofs.Common.{refl, inr}
use Rattle.node_laws.specs.declared.event.Out.TheVariants as out
use Rattle.jakumshe.proofs.Ends.{stepped, done}
use Rattle.jakumshe.proofs.node.Node.step.Goals as goal

pub returns-in-Refused-clause-refused : goal.returns-in-Refused-clause-refused
returns-in-Refused-clause-refused c =
    inr (stepped c.args.self.now.world c.settled.new.self.world c.step.new.self c.in-Ok.field-0.items c.args.event.now
    c.step.result (out.Refused c.in-Refused.refusal) c.in-Ok.ensures.rests c.step.ensures.step c.in-Refused.is)

pub returns-in_default : goal.returns-in_default
returns-in_default c = record {
  stepped = stepped c.args.self.now.world c.settled.new.self.world c.step.new.self c.in-Ok.field-0.items
      c.args.event.now c.step.result c.step.result c.in-Ok.ensures.rests c.step.ensures.step refl;
  done = done c.step.result c.in_default.not-Refused;
  refused = tt;
  rows = c.in-Ok.ensures.rows;
}
