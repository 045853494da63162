use Rattle.std.proofs.Common.{Vec, Global}
use Rattle.node_laws.specs.declared.event.Out.{Out}
use Rattle.jakumshe.proofs.Ends.{told_if, left_if}
use Rattle.jakumshe.proofs.node.Node.call.Goals as goal

pub returns-clause-told : goal.returns-clause-told
returns-clause-told c =
    told_if c.args.self.now.world c.step.new.self.world c.settled.new.self.world c.args.event.now c.in-Ok.field-0
    (λ (told : Vec Out Global). told.items) c.settled.result c.in-Ok.ensures.stepped c.in-Ok.ensures.done c.settled.ensures.rests

pub returns-clause-refused : goal.returns-clause-refused
returns-clause-refused c =
    left_if c.args.self.now.world c.step.new.self.world c.settled.new.self.world c.args.event.now c.in-Ok.field-0
    c.settled.result c.in-Ok.ensures.stepped c.in-Ok.ensures.done c.settled.ensures.stops
