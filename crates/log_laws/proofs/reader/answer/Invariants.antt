use Rattle.std.proofs.Common.{◌≡◌, reverse, take}
use Rattle.history.specs.Log.{answer_of}
use Rattle.log_laws.proofs.reader.answer.Given as goal

abbrev pub invariant-loop-record : goal.invariant-loop-record
invariant-loop-record l = l.found ≡ answer_of (reverse (take l.record-index l.log)) l.number
