use Rattle.std.proofs.Common.{arith}
use Rattle.dc_ab_lsn.proofs.Capturing.{raised_rises, raised_captures}
use Rattle.dc_ab_lsn.proofs.ab_lsn.AbLsn.raise.Goals as goal

pub invariant_of-self : goal.invariant_of-self
invariant_of-self c =
    let kept = c.keep_above-self-inside.ensures in
    rw (kept.low, kept.kept)
    (raised_rises (record { low = c.self.inside.low; entries = c.self.inside.entries }) c.args.low c.self.invariant)

pub returns-clause-captured : goal.returns-clause-captured
returns-clause-captured c = grind (arith, raised_captures)
