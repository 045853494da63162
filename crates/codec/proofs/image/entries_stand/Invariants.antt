use Rattle.std.proofs.Common.{◌≡◌, drop}
use Rattle.codec.specs.Reading.{entries_stand}
use Rattle.codec.proofs.image.entries_stand.Given as goal

abbrev pub invariant-loop-at : goal.invariant-loop-at
invariant-loop-at l = entries_stand l.low l.high (drop l.at l.entries) ≡ entries_stand l.low l.high l.entries
