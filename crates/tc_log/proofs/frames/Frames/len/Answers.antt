use Rattle.std.proofs.Common.{◌∙◌, arith}
use Rattle.tc_log.proofs.Framed.{indexed_count}
use Rattle.tc_log.proofs.frames.Frames.len.Goals as goal

pub returns-clause-count : goal.returns-clause-count
returns-clause-count g c = rw (← c.self.view_is) (c.len.ensures ∙ indexed_count _ _ _ _ _ _ _ c.self.invariant)

pub returns-clause-numbered : goal.returns-clause-numbered
returns-clause-numbered g c =
    omega (arith, c.len.ensures ∙ indexed_count _ _ _ _ _ _ _ c.self.invariant, c.self.invariant.frames.numbered)
