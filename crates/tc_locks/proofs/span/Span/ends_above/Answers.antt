use Rattle.std.proofs.Common.{◌∙◌, sym}
use Rattle.tc_locks.proofs.KeyEnds.{below_next}
use Rattle.tc_locks.proofs.span.Span.ends_above.Goals as goal

pub returns-in-Key : goal.returns-in-Key
returns-in-Key c = rw c.in-Key.is (c.le.ensures ∙ sym (below_next c.args.key.now c.in-Key.last))
