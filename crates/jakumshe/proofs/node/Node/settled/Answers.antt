use Rattle.jakumshe.proofs.Ends.{rests, stops}
use Rattle.jakumshe.proofs.node.Node.settled.Goals as goal

pub returns-in-Ok-true-clause-rests : goal.returns-in-Ok-true-clause-rests
returns-in-Ok-true-clause-rests c =
    rests c.args.self.now.world c.settle.new.world c.forget.new.self c.new-told.result.items c.settle.new.out.items c.settle.result
    c.in-Ok-true.field-0 c.settle.ensures c.new-told.ensures.items c.in-Ok-true.is c.in-Ok-true.field-0-test c.forget.ensures

pub returns-in-Err-clause-stops : goal.returns-in-Err-clause-stops
returns-in-Err-clause-stops c =
    stops c.args.self.now.world c.settle.new.world c.new-told.result.items c.settle.new.out.items c.settle.result
    c.in-Err.refusal c.settle.ensures c.new-told.ensures.items c.in-Err.is
