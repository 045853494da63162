use Rattle.std.proofs.Common.{◌≡◌, drop}
use Rattle.codec.specs.Reading.{numbers_rise}
use Rattle.codec.proofs.entries.entries_rise.Given as goal

abbrev pub invariant-loop-at : goal.invariant-loop-at
invariant-loop-at l = numbers_rise l.before (drop l.at l.entries) ≡ numbers_rise l.fn.low l.entries
