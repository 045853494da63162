use Rattle.std.specs.BTreeMap.{get}
use Rattle.std.specs.Ordering.{nat_cmp}
use Rattle.tc_core.proofs.Rebuilt.{AreNoted}
use Rattle.tc_core.proofs.opening.keys_of.Given as goal

abbrev pub invariant-loop-end : goal.invariant-loop-end
invariant-loop-end g l = AreNoted l.frames.records l.end l.keys.items (get nat_cmp l.open_txns)
