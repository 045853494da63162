use Rattle.std.proofs.Common.{length, ap}
use Rattle.jakumshe.proofs.Opening.{no_memory, opened, stopped}
use Rattle.jakumshe.proofs.node.Node.open_on.Goals as goal

pub returns-in-Err-clause-refused : goal.returns-in-Err-clause-refused
returns-in-Err-clause-refused c = no_memory c.args.log.now c.in-Err.refusal c.in-Err.ensures.memory

pub returns-in-Ok-bring_up-clause-opened : goal.returns-in-Ok-bring_up-clause-opened
returns-in-Ok-bring_up-clause-opened c =
    opened c.args.log.now c.in-Ok.device.forced (length c.in-Ok-stable_bytes.bytes.now) c.in-Ok-node_on.node.world
    c.bring_up.new.self.world c.in-Ok-node_on.ensures.made c.in-Ok.ensures.forced
    (ap length c.in-Ok-stable_bytes.ensures.bytes) c.in-Ok-bring_up.ensures

pub returns-in-Err-bring_up-clause-refused : goal.returns-in-Err-bring_up-clause-refused
returns-in-Err-bring_up-clause-refused c =
    stopped c.args.log.now c.in-Ok.device.forced c.in-Ok-node_on.node.world c.bring_up.new.self.world
    c.in-Err-bring_up.refusal c.in-Ok-node_on.ensures.made c.in-Ok.ensures.forced c.in-Err-bring_up.ensures
