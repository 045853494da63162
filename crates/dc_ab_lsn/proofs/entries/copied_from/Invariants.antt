use Rattle.std.proofs.Common.{◌≡◌, take}
use Rattle.dc_ab_lsn.specs.Parting.{entries_with, is_from}
use Rattle.dc_ab_lsn.proofs.entries.copied_from.Given as goal

abbrev pub invariant-loop-at : goal.invariant-loop-at
invariant-loop-at l = l.copied ≡ entries_with (is_from l.key) (take l.at l.entries)
