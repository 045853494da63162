use Rattle.std.proofs.Common.{◌≡◌, reverse, take}
use Rattle.history.specs.Log.{is_crossed}
use Rattle.log_laws.proofs.reader.is_undone.Given as goal

abbrev pub invariant-loop-record : goal.invariant-loop-record
invariant-loop-record l = l.found ≡ is_crossed (reverse (take l.record-index l.log)) l.number
