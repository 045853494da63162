use Rattle.std.proofs.Common.{drop}
use Rattle.dc_ab_lsn.specs.Parting.{placed_all}
use Rattle.dc_ab_lsn.proofs.Placing.{IsPlacing}
use Rattle.dc_ab_lsn.proofs.entries.place_all.Given as goal

abbrev pub invariant-loop-at : goal.invariant-loop-at
invariant-loop-at l = IsPlacing l.low (placed_all l.low l.more l.initial.entries) (drop l.at l.more) l.entries
