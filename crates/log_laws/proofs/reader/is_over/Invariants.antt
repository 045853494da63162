use Rattle.std.proofs.Common.{◌≡◌, reverse, take}
use Rattle.history.specs.Log.{has_ended}
use Rattle.log_laws.proofs.reader.is_over.Given as goal

abbrev pub invariant-loop-record : goal.invariant-loop-record
invariant-loop-record l = l.found ≡ has_ended (reverse (take l.record-index l.log)) l.txn
