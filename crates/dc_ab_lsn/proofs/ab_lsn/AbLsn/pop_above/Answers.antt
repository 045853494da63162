use Rattle.std.proofs.Common.{arith}
use Rattle.dc_ab_lsn.proofs.Popping.{popped_rises, popped_captures}
use Rattle.dc_ab_lsn.proofs.ab_lsn.AbLsn.pop_above.Goals as goal

pub invariant_of-self : goal.invariant_of-self
invariant_of-self c =
    rw c.drop_above.ensures
    (popped_rises (record { low = c.self.inside.low; entries = c.self.inside.entries }) c.args.end c.self.invariant)

pub returns-clause-captured : goal.returns-clause-captured
returns-clause-captured c = grind (arith, popped_captures)
