use Rattle.node_world.proofs.Framed.{none_read, none_stand}
use Rattle.node_world.proofs.sent.Sent.forget.Goals as goal

pub invariant_of-self : goal.invariant_of-self
invariant_of-self g c =
    rw (c.clear.ensures.items, c.clear-2.ensures.marks, c.clear-2.ensures.count)
    (none_stand _ g.M.Message.spell g.M.Message.is_spelled)

pub returns-clause-none : goal.returns-clause-none
returns-clause-none g c = rw (c.clear.ensures.items, c.clear-2.ensures.count) (none_read _ g.M.Message.read_at)
