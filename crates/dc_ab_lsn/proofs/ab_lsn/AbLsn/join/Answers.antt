use Rattle.std.proofs.Common.{arith}
use Rattle.dc_ab_lsn.proofs.Capturing.{raised_rises, joined_captures}
use Rattle.dc_ab_lsn.proofs.ab_lsn.AbLsn.join.Goals as goal

pub place_all-requires : goal.place_all-requires
place_all-requires c =
    let kept = c.keep_above-low.ensures in
    rw (kept.low, kept.kept, c.in_ok-entries.ensures.copied)
    (raised_rises (record { low = c.self.inside.low; entries = c.self.inside.entries }) c.other.inside.low
    c.self.invariant)

pub returns-clause-joined : goal.returns-clause-joined
returns-clause-joined c = grind arith

pub returns-clause-captured : goal.returns-clause-captured
returns-clause-captured c = grind (arith, returns-clause-joined, joined_captures)
