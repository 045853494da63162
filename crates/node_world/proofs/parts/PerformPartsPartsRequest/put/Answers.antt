use Rattle.std.proofs.Common.{length, ap, arith}
use Rattle.std.proofs.lemmas.Result.{on_ok_weaker}
use Rattle.codec.proofs.Fields.{op_length}
use Rattle.node_world.proofs.SpelledOp.{op_given}
use Rattle.node_world.proofs.parts.PerformPartsPartsRequest.put.Goals as goal

pub put_perform-requires : goal.put_perform-requires
put_perform-requires c =
    let given = c.requires in
    record { short = omega (arith, ap length given.1.0, op_length given.0 given.1.1.1.1.1) }

pub returns-clause-spelling : goal.returns-clause-spelling
returns-clause-spelling c =
    let given = c.requires in
    rw (op_given c.args.self.now.op.now given.0 given.1.0 given.1.1.1.1.1)
    (c.put_perform.ensures.spelling given.0 given.1.0)

pub returns-clause-spelled : goal.returns-clause-spelled
returns-clause-spelled c =
    let given = c.requires in
    on_ok_weaker c.put_perform.result
    (λ _. rw (op_given c.args.self.now.op.now given.0 given.1.0 given.1.1.1.1.1) given.1.1)
    (c.put_perform.ensures.spelling given.0 given.1.0)
