use Rattle.node_world.proofs.Framed.{none_read, none_stand}
use Rattle.node_world.proofs.sent.Sent.new.Goals as goal

pub invariant_of-result : goal.invariant_of-result
invariant_of-result g c =
    rw (c.new.ensures.items, c.new-2.ensures.marks, c.new-2.ensures.count)
    (none_stand _ g.M.Message.spell g.M.Message.is_spelled)

pub returns : goal.returns
returns g c = rw (c.new.ensures.items, c.new-2.ensures.count) (none_read _ g.M.Message.read_at)
