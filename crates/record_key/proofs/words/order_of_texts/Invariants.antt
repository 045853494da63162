use Rattle.std.proofs.Common.{◌-◌}
use Rattle.record_key.proofs.WordOrder.{AreEqualTo}
use Rattle.record_key.proofs.words.order_of_texts.Given as goal

abbrev pub invariant-loop-at : goal.invariant-loop-at
invariant-loop-at l = AreEqualTo l.at l.both l.a l.b

abbrev pub decreases-loop-at : goal.decreases-loop-at
decreases-loop-at l = l.both - l.at
