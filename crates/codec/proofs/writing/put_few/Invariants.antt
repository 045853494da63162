use Rattle.codec.proofs.ItemLoops.{PutsFew}
use Rattle.codec.proofs.writing.put_few.Given as goal

abbrev pub invariant-loop-byte : goal.invariant-loop-byte
invariant-loop-byte l = PutsFew l.fn.out l.out l.bytes l.byte-index
