use Rattle.std.proofs.Common.{◌≡◌, drop}
use Rattle.tc_core.specs.OpenTxns.{oldest, wants}
use Rattle.tc_core.specs.Slots.{in_slots}
use Rattle.tc_core.proofs.open_txns.OpenTxns.oldest.Given as goal

-- none of those seen is wanted
abbrev pub invariant-loop-slot : goal.invariant-loop-slot
invariant-loop-slot l = oldest (wants l.wanted) (in_slots l.self-inside.txns (drop l.slot-index l.slot-items))
    ≡ oldest (wants l.wanted) l.self
